-- What a walk over some tasks picks.
use Rattle.std.specs.Prelude.{◌≡◌, ◌≢◌, ◌⊎◌, ◌<◌, ℕ, Bool, true, List, Option, Some, None, slice_get}
use Rattle.std.specs.declared.cmp.Ordering.{Ordering}
use Rattle.std.specs.declared.cmp.Ordering.TheVariants.{Less, Greater}
use Rattle.fractal_vt.specs.declared.key.Key.{Key}
use Rattle.fractal_vt.specs.Keys.{key_cmp}
use Rattle.spec_state.specs.declared.task.Status.TheVariants.{Idle}
use Rattle.spec_state.specs.declared.task.Task.{Task}
use Rattle.spec_state.specs.declared.task.TaskId.{TaskId}
use Rattle.spec_state.specs.View.{View, task_at}
use Rattle.spec_state.specs.Tasks.{is_dispatched}
use Rattle.spec_state.specs.Fronts.{IsFirmBy}
use Rattle.spec_state.specs.Queries.{HasLine, IsDispatched}

-- a task of this kind whose key isn't greater than that of any other in this order; None exactly where no task is of
-- this kind
abbrev pub IsPick : (Key → Key → Ordering) → (ℕ → Task → Type 0) → Option TaskId → Type 0
IsPick order kind None = (id : ℕ) (task : Task) → kind id task → ⊥
IsPick order kind (Some id) =
    (task : Task) × kind id.0 task × ((k : ℕ) (x : Task) → kind k x → order task.key x.key ≢ Greater)

-- the order of keys, the greatest first
abbrev pub latest_first : Key → Key → Ordering
latest_first a b = key_cmp b a

-- the task of one of two ids, where they are given
abbrev pub IsEither : View → Option TaskId → Option TaskId → ℕ → Task → Type 0
IsEither view one two id task =
    ((one ≡ Some (record { 0 = id })) ⊎ (two ≡ Some (record { 0 = id }))) × (task_at view id ≡ Some task)

-- the task of this id, where one is given
abbrev pub IsOwn : View → Option TaskId → ℕ → Task → Type 0
IsOwn view one id task = (one ≡ Some (record { 0 = id })) × (task_at view id ≡ Some task)

-- an access of the first task to the line, a store if `write`, conflicts with the second one
pub record ConflictsWith (task : Task) (line : ℕ) (write : Bool) (other : Task) : Type 0 where
  pub dispatched : is_dispatched other ≡ true
  pub later : key_cmp task.key other.key ≡ Less
  pub has_line : HasLine write other line

-- a dispatched task of the tile with which it conflicts
abbrev pub IsConflictIn : View → ℕ → Task → ℕ → Bool → ℕ → Task → Type 0
IsConflictIn view tile task line write id other =
    IsDispatched view tile id other × ConflictsWith task line write other

-- an idle task at a place of a queue's ids
pub record IsIdleAt (view : View) (ids : List ℕ) (place id : ℕ) (task : Task) : Type 0 where
  pub id_at : slice_get ids place ≡ Some id
  pub there : task_at view id ≡ Some task
  pub idle : task.status ≡ Idle

-- of the idle tasks at the first places, so many, the one of the least key, and of those that tie the one at the
-- earliest place
pub record IsFirstIdle (view : View) (ids : List ℕ) (count id : ℕ) : Type 0 where
  pub place : ℕ
  pub task : Task
  pub below : place < count
  pub idle : IsIdleAt view ids place id task
  pub least : (p k : ℕ) (x : Task) → p < count → IsIdleAt view ids p k x → key_cmp task.key x.key ≢ Greater
  pub first : (p k : ℕ) (x : Task) → p < place → IsIdleAt view ids p k x → key_cmp task.key x.key ≡ Less

-- it is this task, or there is none
abbrev pub IsIdlePick : View → List ℕ → ℕ → Option TaskId → Type 0
IsIdlePick view ids count None = (p k : ℕ) (x : Task) → p < count → IsIdleAt view ids p k x → ⊥
IsIdlePick view ids count (Some id) = IsFirstIdle view ids count id.0

-- the task is idle, and its creator has committed or is the dispatched least task
abbrev pub IsIdleFirmBy : Option ℕ → Task → Type 0
IsIdleFirmBy heir task = (task.status ≡ Idle) × IsFirmBy heir task.creator
