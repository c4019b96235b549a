-- The least uncommitted task, the order among the tasks of a tile, and which tasks are firm.
use Rattle.std.specs.Prelude.{◌≡◌, ◌≢◌, ◌⊎◌, ℕ, ◌+◌, ◌≤◌, true, length, Option, Some, None, slice_get}
use Rattle.std.specs.Ordering.{nat_cmp, ordering_then}
use Rattle.std.specs.declared.cmp.Ordering.{Ordering}
use Rattle.std.specs.declared.cmp.Ordering.TheVariants.{Less, Greater}
use Rattle.fractal_vt.specs.declared.key.Key.{Key}
use Rattle.fractal_vt.specs.Keys.{key_cmp}
use Rattle.spill_store.specs.SpilledTasks.{Spilled, open_key}
use Rattle.task_desc.specs.declared.desc.Name.{Name}
use Rattle.spec_state.specs.declared.task.Creator.{Creator}
use Rattle.spec_state.specs.declared.task.Creator.TheVariants.{Committed, Live}
use Rattle.spec_state.specs.declared.task.Status.TheVariants as status
use Rattle.spec_state.specs.declared.task.Task.{Task}
use Rattle.spec_state.specs.declared.task.Where.{Where}
use Rattle.spec_state.specs.declared.task.Where.TheVariants as where_
use Rattle.spec_state.specs.View.{View, task_at, queue_at, block_at}
use Rattle.spec_state.specs.Tasks.{is_dispatched}

-- where an uncommitted task stands: at a place of a tile's task queue, or at a place of a tile's block
pub data Spot : Type 0 where
  Queued : (tile place : ℕ) → Spot
  Spilled_at : (tile place : ℕ) → Spot

-- the task of this id is at this place of the tile's task queue
pub record IsQueuedAt (view : View) (tile place id : ℕ) (task : Task) : Type 0 where
  pub queued : slice_get (queue_at view tile) place ≡ Some id
  pub there : task_at view id ≡ Some task

-- the task at this spot has this key
abbrev pub HasKey : View → Spot → Key → Type 0
HasKey view (Queued tile place) key = (id : ℕ) × (task : Task) × IsQueuedAt view tile place id task × (key ≡ task.key)
HasKey view (Spilled_at tile place) key = (s : Spilled) × (slice_get (block_at view tile) place ≡ Some s)
    × (key ≡ open_key s)

-- a place of a tile, by tile and then by place
abbrev pub place_cmp : ℕ → ℕ → ℕ → ℕ → Ordering
place_cmp tile place other_tile other_place = ordering_then (nat_cmp tile other_tile) (nat_cmp place other_place)

-- queued tasks before spilled ones, then the lower tile, then the earlier place
abbrev pub spot_cmp : Spot → Spot → Ordering
spot_cmp (Queued tile place) (Queued other_tile other_place) = place_cmp tile place other_tile other_place
spot_cmp (Queued tile place) (Spilled_at other_tile other_place) = Less
spot_cmp (Spilled_at tile place) (Queued other_tile other_place) = Greater
spot_cmp (Spilled_at tile place) (Spilled_at other_tile other_place) = place_cmp tile place other_tile other_place

-- keys decide, and where they tie, which they do only while both are open, spots do
abbrev pub ranked_cmp : Key → Spot → Key → Spot → Ordering
ranked_cmp key spot other_key other_spot = ordering_then (key_cmp key other_key) (spot_cmp spot other_spot)

-- the task at this spot is the least uncommitted one
pub record IsLeastSpot (view : View) (spot : Spot) : Type 0 where
  pub key : Key
  pub has : HasKey view spot key
  pub least : (other : Spot) (other_key : Key) → HasKey view other other_key
      → ranked_cmp key spot other_key other ≢ Greater

-- the task of this id is the least uncommitted one
pub record IsLeastTask (view : View) (id : ℕ) (task : Task) : Type 0 where
  pub place : ℕ
  pub queued_at : IsQueuedAt view task.tile place id task
  pub least : IsLeastSpot view (Queued task.tile place)

-- the task of this id is the least one
abbrev pub IsTheLeast : View → ℕ → Type 0
IsTheLeast view id = (task : Task) × IsLeastTask view id task

-- the least uncommitted task is spilled in this tile
pub record IsLeastSpilled (view : View) (tile : ℕ) : Type 0 where
  pub place : ℕ
  pub least : IsLeastSpot view (Spilled_at tile place)

-- no task is uncommitted
abbrev pub IsAllCommitted : View → Type 0
IsAllCommitted view = (spot : Spot) (key : Key) → HasKey view spot key → ⊥

-- the least task is this one, and stands so
abbrev pub IsLeast : View → Where → Type 0
IsLeast view (where_.Idle id) = (task : Task) × IsLeastTask view id.0 task × (task.status ≡ status.Idle)
IsLeast view (where_.Running id) = (task : Task) × (core : ℕ) × IsLeastTask view id.0 task
    × (task.status ≡ status.Running core)
IsLeast view (where_.Trapped id) = (task : Task) × (core cause : ℕ) × IsLeastTask view id.0 task
    × (task.status ≡ status.Trapped core cause)
IsLeast view (where_.Finished id) = (task : Task) × IsLeastTask view id.0 task × (task.status ≡ status.Finished)
IsLeast view (where_.Spilled tile) = IsLeastSpilled view tile

-- the id of the least task where that is dispatched, else None: its commit is the next one, and its children's names
-- are known
abbrev pub IsHeir : View → Option ℕ → Type 0
IsHeir view (Some id) = (task : Task) × IsLeastTask view id task × (is_dispatched task ≡ true)
IsHeir view None = (id : ℕ) (task : Task) → IsLeastTask view id task → is_dispatched task ≡ true → ⊥

-- a firm task: its creator has committed, or is the dispatched least task (Jeffrey et al. 2015 spill such tasks alone)
abbrev pub IsFirm : View → Task → Type 0
IsFirm view task =
    ((turn index : ℕ) × (task.creator ≡ Committed turn index))
    ⊎ ((heir : ℕ) × (index : ℕ) × (task.creator ≡ Live (record { 0 = heir }) index) × IsHeir view (Some heir))

-- the name of a firm task by its creator: the creator's commit number, which is the next one where the creator is the
-- dispatched least task, and the place among its children
abbrev pub HasName : View → Creator → Name → Type 0
HasName view (Committed turn index) name = (turn ≤ length view.history)
    × (name ≡ record { creator = turn; index = index })
HasName view (Live task index) name = IsHeir view (Some task.0)
    × (name ≡ record { creator = length view.history + 1; index = index })

-- of two tasks of a tile's task queue the first precedes the second: its key is less, or the keys tie and its place is
-- earlier
abbrev pub Precedes : View → ℕ → ℕ → ℕ → Type 0
Precedes view tile a b =
    (p q : ℕ) (x y : Task) → IsQueuedAt view tile p a x → IsQueuedAt view tile q b y
    → ranked_cmp x.key (Queued tile p) y.key (Queued tile q) ≡ Less
