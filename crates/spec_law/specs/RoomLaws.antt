-- How the words on room in a task queue fit the laws of room, what is left once room is made or a block is split, and
-- how a child's key fits the law of order.
use Rattle.std.specs.Prelude.{◌≡◌, ◌≢◌, ◌↔◌, ℕ, ◌<◌, ◌≤◌, true, length, Option, Some, None, slice_get}
use Rattle.std.specs.declared.cmp.Ordering.TheVariants.{Less}
use Rattle.fractal_vt.specs.declared.key.Key.{Key}
use Rattle.fractal_vt.specs.Keys.{key_cmp}
use Rattle.guest_image.specs.ImageValue.{ImageValue}
use Rattle.order_law.specs.Events.{IsPlaced}
use Rattle.rv_core.specs.LegValue.{LegValue}
use Rattle.task_desc.specs.declared.desc.Spawn.{Spawn}
use Rattle.task_request.specs.declared.request.Request.TheVariants.{Enqueue}
use Rattle.spec_state.specs.task_law.Room as room
use Rattle.spec_state.specs.declared.task.Creator.TheVariants.{Live}
use Rattle.spec_state.specs.declared.task.Task.{Task}
use Rattle.spec_state.specs.View.{View, task_at, queue_at, block_at}
use Rattle.spec_state.specs.Tasks.{is_dispatched, child_descriptor, idle_task}
use Rattle.spec_state.specs.Groups.{keyed_task, room_task, room_tasks}
use Rattle.spec_state.specs.Least.{IsFirm, IsLeastTask, IsLeastSpilled}
use Rattle.spec_state.specs.Room.{Asker, Enqueuer, Splitter, IsMovable, Coalesces, Splits, QueueHasRoom, NoneMoves}
use Rattle.spec_state.specs.Room.{IsVictim, MakesRoom, IsTakenFor}
use Rattle.spec_state.specs.Changes.{TakesLeg, request_of}
use Rattle.spec_law.specs.Sound.{Sound}

-- in a sound view a task is firm exactly where the laws of room call it so
abbrev pub FirmIsFirm : Type 0
FirmIsFirm =
    (image : ImageValue) (view : View) (sound : Sound image view) (task : Task)
    → IsFirm view task ↔ room.IsFirmInQueue sound.heir (room_task task)

-- in a sound view a task of a tile's queue may move exactly where the laws of room let it
abbrev pub MovableIsMovable : Type 0
MovableIsMovable =
    (image : ImageValue) (view : View) (sound : Sound image view) (tile id : ℕ)
    → IsMovable view tile id ↔ room.IsMovableInQueue (room_tasks view) sound.heir (queue_at view tile) id

-- the task that asks, if a task does
abbrev pub asking_task : Asker → Option ℕ
asking_task (Enqueuer id) = Some id
asking_task Splitter = None

-- the victim, which is the last task but the requester where places break ties, is one of the latest that the laws of
-- room allow
abbrev pub VictimIsVictim : Type 0
VictimIsVictim =
    (view : View) (tile : ℕ) (asker : Asker) (id : ℕ) (task : Task)
    → IsVictim view tile asker id task
    → room.IsVictimInQueue (room_tasks view) (queue_at view tile) (asking_task asker) id (room_task task)

-- who asks does so for the least task, whose key this is: it asks itself, dispatched, or is spilled in this tile
abbrev pub AsksAsLeast : View → ℕ → Asker → Key → Type 0
AsksAsLeast view tile (Enqueuer id) low =
    (task : Task) × IsLeastTask view id task × (is_dispatched task ≡ true) × (low ≡ task.key)
AsksAsLeast view tile Splitter low = (least : IsLeastSpilled view tile) × (low ≡ least.least.key)

-- the task is dispatched, isn't the requester, and its key is above this one
pub record MayBeTaken (view : View) (asker : Asker) (low : Key) (first : ℕ) : Type 0 where
  pub task : Task
  pub there : task_at view first ≡ Some task
  pub dispatched : is_dispatched task ≡ true
  pub other : asker ≢ Enqueuer first
  pub above : key_cmp low task.key ≡ Less

-- in a sound view, where nothing in a tile's queue moves and the least task requests room, what is aborted for the
-- victim is a later dispatched task
abbrev pub VictimIsLater : Type 0
VictimIsLater =
    (image : ImageValue) (view : View) (tile : ℕ) (asker : Asker) (low : Key) (v first : ℕ) (task : Task)
    → Sound image view → AsksAsLeast view tile asker low → NoneMoves view tile → IsVictim view tile asker v task
    → IsTakenFor view v task first
    → MayBeTaken view asker low first

-- a coalescing makes the tile's queue shorter, and no queue longer
abbrev pub CoalesceMakesRoom : Type 0
CoalesceMakesRoom =
    (tile : ℕ) (old new : View) → Coalesces tile old new
    → (length (queue_at new tile) < length (queue_at old tile))
    × ((other : ℕ) → length (queue_at new other) ≤ length (queue_at old other))

-- in a sound view a tile's queue has room once it was made in it, by whichever rule
abbrev pub RoomIsMade : Type 0
RoomIsMade =
    (image : ImageValue) (tile aborted : ℕ) (asker : Asker) (old new : View)
    → Sound image old → MakesRoom tile asker old aborted new → QueueHasRoom new tile

-- the task of this id has this key
abbrev pub HasKeyAt : View → ℕ → Key → Type 0
HasKeyAt view id key = (task : Task) × (task_at view id ≡ Some task) × (task.key ≡ key)

-- where the least task is spilled in a tile, a split takes it out of the block, and the task that comes back has
-- its key
abbrev pub SplitReturnsLeast : Type 0
SplitReturnsLeast =
    (tile : ℕ) (old new : View) (least : IsLeastSpilled old tile) (splits : Splits tile old new)
    → (slice_get (block_at old tile) least.place ≡ Some splits.spilled) × HasKeyAt new splits.id least.least.key

-- in a sound view, where the least task is spilled in a tile, the task that comes back by a split is the least one
-- from then on
abbrev pub SplitKeepsLeast : Type 0
SplitKeepsLeast =
    (image : ImageValue) (tile : ℕ) (old new : View) → Sound image old → IsLeastSpilled old tile
    → (splits : Splits tile old new)
    → (task : Task) × IsLeastTask new splits.id task

-- the idle child that a task of this id makes by this spawn, in a tile
abbrev pub child_of : ℕ → ℕ → Task → Spawn → ℕ → Task
child_of version id task spawn tile =
    idle_task version (child_descriptor task spawn) (Live (record { 0 = id }) (length task.spawns)) tile

-- in a sound view, where a running task asks for a child, the child stands where the law of order lets it, and its
-- key is above its creator's
abbrev pub ChildIsAbove : Type 0
ChildIsAbove =
    (image : ImageValue) (view : View) (tile core id to : ℕ) (leg : LegValue) (task : Task) (spawn : Spawn)
    → Sound image view → TakesLeg view tile core leg id task → request_of view task leg ≡ Enqueue spawn
    → IsPlaced (keyed_task task) (keyed_task (child_of view.version id task spawn to))
    × (key_cmp task.key (child_of view.version id task spawn to).key ≡ Less)
