-- Room in a task queue: spilling, its return, and the four rules for who wants a free place (Jeffrey et al. 2015,
-- section 4.7: coalescers and splitters).
use Rattle.std.specs.Prelude.{◌≡◌, ◌⊎◌, ◌≢◌, ℕ, ◌<◌, ◌≤◌, List, [], length, map, AllPairs, Contains, Option, Some}
use Rattle.std.specs.Prelude.{None, slice_set}
use Rattle.std.specs.List.{AllZip}
use Rattle.spill_store.specs.SpilledTasks.{Spilled, TakesLeast}
use Rattle.spill_store.specs.Pushing.{after_pushes}
use Rattle.task_desc.specs.declared.desc.Name.{Name}
use Rattle.task_law.specs.Room.{queue_after}
use Rattle.spec_state.specs.declared.task.Creator.{Creator}
use Rattle.spec_state.specs.declared.task.Task.{Task}
use Rattle.spec_state.specs.declared.reserving.TheConstants.{MAX_MOVED}
use Rattle.spec_state.specs.View.{View, task_at, queue_at, block_at, queued_last, ChangesTask}
use Rattle.spec_state.specs.Tasks.{descriptor_of, spilled_descriptor, spilled_as, idle_task}
use Rattle.spec_state.specs.Groups.{room_tasks, live_creator}
use Rattle.spec_state.specs.Least.{IsFirm, HasName, IsLeastSpilled, IsTheLeast, Precedes}
use Rattle.spec_state.specs.Queries.{IsQueued, IsIdleFirm}
use Rattle.spec_state.specs.Aborts.{Aborts, OnlyNode}

-- the id of an idle firm task of the tile
abbrev pub IsMovable : View → ℕ → ℕ → Type 0
IsMovable view tile id = (task : Task) × IsIdleFirm view tile id task

-- the idle firm tasks of the tile that move, the least first: all of them, or so many as move at once, before each of
-- which comes each that stays
pub record AreChosen (view : View) (tile : ℕ) (ids : List ℕ) : Type 0 where
  pub movable : (id : ℕ) → Contains ids id → IsMovable view tile id
  pub few : length ids ≤ MAX_MOVED
  pub all : length ids < MAX_MOVED → (id : ℕ) → IsMovable view tile id → Contains ids id
  pub latest : (stays id : ℕ) → IsMovable view tile stays → (Contains ids stays → ⊥) → Contains ids id
      → Precedes view tile stays id
  pub rising : AllPairs (Precedes view tile) ids

-- the task of this id as it is spilled, under its name
pub record IsSpilledAs (view : View) (id : ℕ) (s : Spilled) : Type 0 where
  pub task : Task
  pub there : task_at view id ≡ Some task
  pub name : Name
  pub named : HasName view task.creator name
  pub spilled_is : s ≡ spilled_as name (descriptor_of task)

-- a coalescing: the latest idle firm tasks of the tile, at most so many as move at once, are pushed into its block, the
-- least of them first
pub record Coalesces (tile : ℕ) (old new : View) : Type 0 where
  pub ids : List ℕ
  pub chosen : AreChosen old tile ids
  pub some : ids ≢ []
  pub moved : List Spilled
  pub spilled : AllZip (IsSpilledAs old) ids moved
  pub gone : (id : ℕ) → Contains ids id → task_at new id ≡ None
  pub others : (id : ℕ) → (Contains ids id → ⊥) → task_at new id ≡ task_at old id
  pub queues : new.queues ≡ map (queue_after (room_tasks new)) old.queues
  pub blocks : new.blocks ≡ slice_set old.blocks tile (after_pushes (block_at old tile) moved)
  pub frame : new ≡ record old { tasks = new.tasks; queues = new.queues; blocks = new.blocks }

-- a split: the least task of the tile's block comes back, idle, as the last one of the tile's task queue
pub record Splits (tile : ℕ) (old new : View) : Type 0 where
  pub spilled : Spilled
  pub block : List Spilled
  pub least : TakesLeast (block_at old tile) block spilled
  pub creator : Creator
  pub named : HasName old creator spilled.desc.name
  pub id : ℕ
  pub vacant : task_at old id ≡ None
  pub changes : ChangesTask old new id (Some (idle_task old.version (spilled_descriptor spilled) creator tile))
  pub queues : new.queues ≡ queued_last old tile id
  pub blocks : new.blocks ≡ slice_set old.blocks tile block
  pub frame : new ≡ record old { tasks = new.tasks; queues = new.queues; blocks = new.blocks }

-- the task queue of the tile has room: a free place
abbrev pub QueueHasRoom : View → ℕ → Type 0
QueueHasRoom view tile = length (queue_at view tile) < view.settings.task_queue

-- the task queue of the tile is full
abbrev pub IsFull : View → ℕ → Type 0
IsFull view tile = view.settings.task_queue ≤ length (queue_at view tile)

-- the task queue of the tile holds no idle firm task
abbrev pub NoneMoves : View → ℕ → Type 0
NoneMoves view tile = (id : ℕ) → IsMovable view tile id → ⊥

-- who asks for room in a tile's task queue: a task, of this id, for its child, or the tile's splitter, for a
-- spilled task
pub data Asker : Type 0 where
  Enqueuer : (id : ℕ) → Asker
  Splitter : Asker

-- the task that asks, or the splitter where none is given
abbrev pub asker_of : Option ℕ → Asker
asker_of None = Splitter
asker_of (Some id) = Enqueuer id

-- who asks for room in this tile is the least task, or asks for it
abbrev pub IsLeastAsker : View → ℕ → Asker → Type 0
IsLeastAsker view tile (Enqueuer id) = IsTheLeast view id
IsLeastAsker view tile Splitter = IsLeastSpilled view tile

-- the task queue of the tile is full, nothing in it moves, and who asks for room doesn't ask as the least task
pub record Stalls (view : View) (tile : ℕ) (asker : Asker) : Type 0 where
  pub full : IsFull view tile
  pub none_moves : NoneMoves view tile
  pub not_least : IsLeastAsker view tile asker → ⊥

-- the victim: of the tile's queue the latest task other than the one that asks, by key and then by place
pub record IsVictim (view : View) (tile : ℕ) (asker : Asker) (id : ℕ) (task : Task) : Type 0 where
  pub queued : IsQueued view tile id
  pub there : task_at view id ≡ Some task
  pub other : asker ≢ Enqueuer id
  pub last : (k : ℕ) → k ≢ id → asker ≢ Enqueuer k → IsQueued view tile k → Precedes view tile k id

-- what is aborted for a victim: the victim itself where it is firm, and else its creator
abbrev pub IsTakenFor : View → ℕ → Task → ℕ → Type 0
IsTakenFor view v task first = (IsFirm view task × (first ≡ v))
    ⊎ ((IsFirm view task → ⊥) × (live_creator task.creator ≡ Some first))

-- how a tile's task queue gets room for the requester, and how many tasks are aborted for it
pub data MakesRoom (tile : ℕ) (asker : Asker) (old : View) : ℕ → View → Type 0 where
  queue_has_room : QueueHasRoom old tile → MakesRoom tile asker old 0 old
  coalesces : (new : View) → IsFull old tile → Coalesces tile old new → MakesRoom tile asker old 0 new
  aborts_victim : (aborted v : ℕ) (task : Task) (mid new : View)
      → IsFull old tile → NoneMoves old tile → IsLeastAsker old tile asker → IsVictim old tile asker v task
      → IsFirm old task → Aborts (OnlyNode v) old aborted mid → Coalesces tile mid new
      → MakesRoom tile asker old aborted new
  aborts_creator : (aborted v creator : ℕ) (task : Task) (new : View)
      → IsFull old tile → NoneMoves old tile → IsLeastAsker old tile asker → IsVictim old tile asker v task
      → (IsFirm old task → ⊥) → live_creator task.creator ≡ Some creator → Aborts (OnlyNode creator) old aborted new
      → MakesRoom tile asker old aborted new
