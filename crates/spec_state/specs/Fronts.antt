-- The first of the queued tasks, and the first of the spilled ones; the state of the least task; and the dispatched
-- least task (`IsHeir`), firm tasks and their names, as code finds them.
use Rattle.std.specs.Prelude.{◌≡◌, ◌≢◌, ◌<◌, ◌+◌, ℕ, List, [], Option, Some, None, slice_get, slice_index_or}
use Rattle.std.specs.declared.cmp.Ordering.TheVariants.{Greater}
use Rattle.fractal_vt.specs.declared.key.Key.{Key}
use Rattle.spill_store.specs.SpilledTasks.{Spilled, open_key}
use Rattle.task_desc.specs.declared.desc.Name.{Name}
use Rattle.spec_state.specs.declared.task.Creator.{Creator}
use Rattle.spec_state.specs.declared.task.Creator.TheVariants.{Committed, Live}
use Rattle.spec_state.specs.declared.task.Status.TheVariants as status
use Rattle.spec_state.specs.declared.task.Task.{Task}
use Rattle.spec_state.specs.declared.task.TaskId.{TaskId}
use Rattle.spec_state.specs.declared.task.Where.{Where}
use Rattle.spec_state.specs.declared.task.Where.TheVariants as where_
use Rattle.spec_state.specs.View.{View}
use Rattle.spec_state.specs.Least.{Queued, Spilled_at, IsQueuedAt, ranked_cmp}

-- of the queued tasks none comes before this one
pub record IsFirstQueued (view : View) (id : ℕ) (task : Task) : Type 0 where
  pub place : ℕ
  pub queued_at : IsQueuedAt view task.tile place id task
  pub first : (tile p k : ℕ) (x : Task) → IsQueuedAt view tile p k x
      → ranked_cmp task.key (Queued task.tile place) x.key (Queued tile p) ≢ Greater

-- of the tasks in the first blocks, so many, none comes before one of this tile, which has this key
pub record IsFirstSpilled (blocks : List (List Spilled)) (count tile : ℕ) (key : Key) : Type 0 where
  pub below : tile < count
  pub place : ℕ
  pub spilled : Spilled
  pub there : slice_get (slice_index_or blocks tile []) place ≡ Some spilled
  pub of_task : key ≡ open_key spilled
  pub first : (t p : ℕ) (x : Spilled) → t < count → slice_get (slice_index_or blocks t []) p ≡ Some x
      → ranked_cmp key (Spilled_at tile place) (open_key x) (Spilled_at t p) ≢ Greater

-- the first blocks, so many, hold no task
abbrev pub HoldNone : List (List Spilled) → ℕ → Type 0
HoldNone blocks count = (t p : ℕ) (x : Spilled) → t < count → slice_get (slice_index_or blocks t []) p ≡ Some x → ⊥

-- the queued task stands so
abbrev pub IsStanding : Where → TaskId → Task → Type 0
IsStanding (where_.Idle id) own task = (id ≡ own) × (task.status ≡ status.Idle)
IsStanding (where_.Running id) own task = (id ≡ own) × ((core : ℕ) × (task.status ≡ status.Running core))
IsStanding (where_.Trapped id) own task = (id ≡ own)
    × ((core : ℕ) × (cause : ℕ) × (task.status ≡ status.Trapped core cause))
IsStanding (where_.Finished id) own task = (id ≡ own) × (task.status ≡ status.Finished)
IsStanding (where_.Spilled tile) own task = ⊥

-- the creator has committed, or is the dispatched least task
abbrev pub IsFirmBy : Option ℕ → Creator → Type 0
IsFirmBy heir (Committed turn index) = Unit {0}
IsFirmBy heir (Live task index) = heir ≡ Some task.0

-- the least task where it is dispatched, by where it stands
abbrev pub dispatched_in : Option Where → Option ℕ
dispatched_in None = None
dispatched_in (Some (where_.Idle id)) = None
dispatched_in (Some (where_.Running id)) = Some id.0
dispatched_in (Some (where_.Trapped id)) = Some id.0
dispatched_in (Some (where_.Finished id)) = Some id.0
dispatched_in (Some (where_.Spilled tile)) = None

-- the name that a firm task has from its creator, where so many tasks have committed
abbrev pub name_given : Creator → ℕ → Name
name_given (Committed turn index) count = record { creator = turn; index = index }
name_given (Live task index) count = record { creator = count + 1; index = index }
