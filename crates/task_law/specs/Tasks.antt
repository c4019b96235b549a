-- The uncommitted tasks as the serial bags see them: queued ones by id, spilled ones by name.
use Rattle.std.specs.Prelude.{◌≡◌, ◌⊎◌, ℕ, ◌+◌, ◌≤◌, Bool, List, [], ◌∷◌, Option, Some, slice_get}
pub use Rattle.memory_law.specs.Tasks.{In}
use Rattle.task_desc.specs.declared.desc.Name.{Name}
use Rattle.task_desc.specs.declared.desc.Spawn.{Spawn}
use Rattle.task_desc.specs.declared.desc.Place.{Place}
use Rattle.task_desc.specs.declared.desc.Place.TheVariants.{Same, Sub, Super}
use Rattle.pending_list.specs.declared.task.PendingTask.{PendingTask}

-- who made a task: the turn of this number, or a task of this id that is still to commit; and the child's place
-- among the creator's children
pub data BagCreator : Type 0 where
  Committed : (turn index : ℕ) → BagCreator
  Live : (task index : ℕ) → BagCreator

-- what a task runs: its entry address and its arguments
pub record Body : Type 0 where
  pub entry : ℕ
  pub args : List ℕ

abbrev pub body_of : PendingTask → Body
body_of p = record { entry = p.entry; args = p.args }

abbrev pub spawn_body : Spawn → Body
spawn_body spawn = record { entry = spawn.entry; args = spawn.args }

-- what the bags read of a queued task: its depth, what it runs, its timestamp and creator, whether it is dispatched,
-- and the children that it has made so far
pub record BagTask : Type 0 where
  pub depth : ℕ
  pub body : Body
  pub ts : ℕ
  pub creator : BagCreator
  pub dispatched : Bool
  pub spawns : List Spawn

-- the depth of a child, by the depth of its creator and the domain that it was enqueued to
abbrev pub IsChildDepth : ℕ → Place → ℕ → Type 0
IsChildDepth depth Same child = child ≡ depth
IsChildDepth depth Sub child = child ≡ depth + 1
IsChildDepth depth Super child = child + 1 ≡ depth

-- the pending task of this name
abbrev pub pending : ℕ → ℕ → Body → ℕ → PendingTask
pending turn index body ts =
    record { name = record { creator = turn; index = index }; entry = body.entry; ts = ts; args = body.args }

module _ (tasks : ℕ → Option BagTask) (spilled : ℕ → PendingTask → Type 0) (count : ℕ) where
  -- a queued task with a committed creator
  pub record QueuedFree (depth : ℕ) (p : PendingTask) : Type 0 where
    pub id : ℕ
    pub task : BagTask
    pub there : tasks id ≡ Some task
    pub turn : ℕ
    pub index : ℕ
    pub creator : task.creator ≡ Committed turn index
    pub depth_is : task.depth ≡ depth
    pub pending_is : p ≡ pending turn index task.body task.ts

  -- a free task: an uncommitted one with a committed creator
  abbrev pub IsFree : ℕ → PendingTask → Type 0
  IsFree depth p = QueuedFree depth p ⊎ (spilled depth p × (p.name.creator ≤ count))

  -- a queued child
  pub record QueuedChild (creator index depth : ℕ) (body : Body) (ts : ℕ) : Type 0 where
    pub id : ℕ
    pub task : BagTask
    pub there : tasks id ≡ Some task
    pub creator_is : task.creator ≡ Live creator index
    pub depth_is : task.depth ≡ depth
    pub has_body : task.body ≡ body
    pub has_ts : task.ts ≡ ts

  -- a child of a task; one of the least task may be spilled, under the name that the next turn gives it
  abbrev pub IsChild : ℕ → ℕ → ℕ → ℕ → Body → ℕ → Type 0
  IsChild least creator index depth body ts =
      QueuedChild creator index depth body ts ⊎ ((creator ≡ least) × spilled depth (pending (count + 1) index body ts))

-- the child is the one that its creator enqueued at this place
pub record Matched (task : BagTask) (index depth : ℕ) (body : Body) (ts : ℕ) : Type 0 where
  pub spawn : Spawn
  pub spawn_is : slice_get task.spawns index ≡ Some spawn
  pub place : IsChildDepth task.depth spawn.place depth
  pub same_body : body ≡ spawn_body spawn
  pub same_ts : ts ≡ spawn.ts

-- the children of a task are those that it has enqueued
pub record IsFamily (tasks : ℕ → Option BagTask) (spilled : ℕ → PendingTask → Type 0) (count least creator : ℕ)
    (task : BagTask) : Type 0 where
  pub each : (index : ℕ) (spawn : Spawn) → slice_get task.spawns index ≡ Some spawn
      → (depth : ℕ) × IsChildDepth task.depth spawn.place depth
      × IsChild tasks spilled count least creator index depth (spawn_body spawn) spawn.ts
  pub only : (index depth : ℕ) (body : Body) (ts : ℕ)
      → IsChild tasks spilled count least creator index depth body ts → Matched task index depth body ts

-- the name that a firm task has: that of its committed creator's child, or of a child of the least task, which
-- takes the next turn
abbrev pub Names : ℕ → ℕ → BagCreator → Name → Type 0
Names count least (Committed turn index) name = (name ≡ record { creator = turn; index = index }) × (turn ≤ count)
Names count least (Live creator index) name = (creator ≡ least) × (name ≡ record { creator = count + 1; index = index })

-- a spilled task, with the depth of its domain
pub record SpilledBagTask : Type 0 where
  pub depth : ℕ
  pub task : PendingTask

-- the pending task is spilled at this depth
abbrev pub IsSpilled : List SpilledBagTask → ℕ → PendingTask → Type 0
IsSpilled spilled depth p = In (record { depth = depth; task = p }) spilled
