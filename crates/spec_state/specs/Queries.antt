-- The words that queries promise.
use Rattle.std.specs.Prelude.{◌≡◌, ◌≢◌, ℕ, ◌<◌, Bool, true, false, Some, None, slice_get, Contains}
use Rattle.std.specs.declared.cmp.Ordering.TheVariants.{Less, Greater}
use Rattle.fractal_vt.specs.Keys.{key_cmp}
use Rattle.spec_state.specs.declared.task.Status.TheVariants.{Idle, Running}
use Rattle.spec_state.specs.declared.task.Task.{Task}
use Rattle.spec_state.specs.View.{View, task_at, queue_at, finished_at, cores_at}
use Rattle.spec_state.specs.Filters.{has_touched, has_written}
use Rattle.spec_state.specs.Tasks.{is_dispatched}
use Rattle.spec_state.specs.Least.{IsFirm, Precedes}

-- the tile's task queue contains the id
abbrev pub IsQueued : View → ℕ → ℕ → Type 0
IsQueued view tile id = Contains (queue_at view tile) id

-- an idle task of the tile
pub record IsIdle (view : View) (tile id : ℕ) (task : Task) : Type 0 where
  pub queued : IsQueued view tile id
  pub there : task_at view id ≡ Some task
  pub idle : task.status ≡ Idle

-- the least idle task of the tile
pub record IsLeastIdle (view : View) (tile id : ℕ) (task : Task) : Type 0 where
  pub idle : IsIdle view tile id task
  pub least : (k : ℕ) (x : Task) → k ≢ id → IsIdle view tile k x → Precedes view tile id k

-- an idle firm task of the tile
pub record IsIdleFirm (view : View) (tile id : ℕ) (task : Task) : Type 0 where
  pub idle : IsIdle view tile id task
  pub firm : IsFirm view task

-- a dispatched task of the tile
pub record IsDispatched (view : View) (tile id : ℕ) (task : Task) : Type 0 where
  pub queued : IsQueued view tile id
  pub there : task_at view id ≡ Some task
  pub dispatched : is_dispatched task ≡ true

-- the core of the tile holds this task
pub record IsOnCore (view : View) (tile core id : ℕ) (task : Task) : Type 0 where
  pub held : slice_get (cores_at view tile) core ≡ Some (Some id)
  pub there : task_at view id ≡ Some task

-- the task runs on that core
pub record IsRunning (view : View) (tile core id : ℕ) (task : Task) : Type 0 where
  pub on : IsOnCore view tile core id task
  pub running : task.status ≡ Running core

-- a task in the commit queue of the tile
pub record IsFinished (view : View) (tile id : ℕ) (task : Task) : Type 0 where
  pub queued : Contains (finished_at view tile) id
  pub there : task_at view id ≡ Some task

-- of the tasks of this kind one with the greatest key; dispatched tasks never tie
pub record IsLatest (kind : ℕ → Task → Type 0) (id : ℕ) (task : Task) : Type 0 where
  pub of_kind : kind id task
  pub latest : (k : ℕ) (x : Task) → kind k x → key_cmp x.key task.key ≢ Greater

-- the latest dispatched task of the tile
abbrev pub IsLatestDispatched : View → ℕ → ℕ → Task → Type 0
IsLatestDispatched view tile = IsLatest (IsDispatched view tile)

-- the latest task on a core of the tile
abbrev pub IsLatestOnCore : View → ℕ → ℕ → Task → Type 0
IsLatestOnCore view tile = IsLatest (λ id task. (core : ℕ) × IsOnCore view tile core id task)

-- the latest task in the commit queue of the tile
abbrev pub IsLatestFinished : View → ℕ → ℕ → Task → Type 0
IsLatestFinished view tile = IsLatest (IsFinished view tile)

-- the core holds no task
abbrev pub IsFreeCore : View → ℕ → ℕ → Type 0
IsFreeCore view tile core = slice_get (cores_at view tile) core ≡ Some None

-- the lowest core of the tile that holds no task
pub record IsLowestFree (view : View) (tile core : ℕ) : Type 0 where
  pub free : IsFreeCore view tile core
  pub lowest : (other : ℕ) → other < core → IsFreeCore view tile other → ⊥

-- the second task is dispatched, and its key is greater
pub record IsLater (view : View) (task : Task) (k : ℕ) (x : Task) : Type 0 where
  pub there : task_at view k ≡ Some x
  pub dispatched : is_dispatched x ≡ true
  pub later : key_cmp task.key x.key ≡ Less

-- a store conflicts with a later task that touched its line, and a load with one that wrote it (Jeffrey et al.
-- 2015, section 4.4: eager conflict detection; here by what the tasks' filters say)
abbrev pub HasLine : Bool → Task → ℕ → Type 0
HasLine true x line = has_touched x line ≡ true
HasLine false x line = has_written x line ≡ true

-- an access of the task to the line, a store if `write`, conflicts with the second task
pub record Conflicts (view : View) (task : Task) (line : ℕ) (write : Bool) (k : ℕ) : Type 0 where
  pub other : Task
  pub later : IsLater view task k other
  pub has_line : HasLine write other line

-- the earliest task with which it conflicts
pub record IsFirstConflict (view : View) (task : Task) (line : ℕ) (write : Bool) (k : ℕ) : Type 0 where
  pub conflict : Conflicts view task line write k
  pub earliest : (j : ℕ) (c : Conflicts view task line write j) → key_cmp conflict.other.key c.other.key ≢ Greater
