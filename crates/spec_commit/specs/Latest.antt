-- Which tasks of a tile's queue are the latest.
use Rattle.std.specs.Prelude.{◌≡◌, ◌≢◌, ℕ, ◌<◌, ◌≤◌, ◌+◌, ◌-◌, List, length, drop, AllPairs, Contains, Some, slice_get}
use Rattle.std.specs.List.{insert}
use Rattle.std.specs.declared.cmp.Ordering.TheVariants.{Less}
use Rattle.fractal_vt.specs.Keys.{key_cmp}
use Rattle.spec_state.specs.declared.task.Task.{Task}
use Rattle.spec_state.specs.declared.reserving.TheConstants.{MAX_MOVED}
use Rattle.spec_state.specs.View.{View, task_at, queue_at}
use Rattle.spec_state.specs.Least.{Precedes}
use Rattle.spec_state.specs.Room.{Asker, Enqueuer, IsMovable}

-- of two tasks the first has the lesser key
pub record HasLessKey (view : View) (a b : ℕ) : Type 0 where
  pub x : Task
  pub y : Task
  pub first : task_at view a ≡ Some x
  pub second : task_at view b ≡ Some y
  pub less : key_cmp x.key y.key ≡ Less

-- the id is at one of the first `count` places of the tile's task queue
abbrev pub IsAmong : View → ℕ → ℕ → ℕ → Type 0
IsAmong view tile count id = (place : ℕ) × (place < count) × (slice_get (queue_at view tile) place ≡ Some id)

-- the id is at one of the last `count` places of the tile's task queue
abbrev pub IsAmongLast : View → ℕ → ℕ → ℕ → Type 0
IsAmongLast view tile count id =
    (place : ℕ) × (length (queue_at view tile) ≤ place + count) × (slice_get (queue_at view tile) place ≡ Some id)

-- it may move besides
abbrev pub MayMove : View → ℕ → ℕ → ℕ → Type 0
MayMove view tile count id = IsAmongLast view tile count id × IsMovable view tile id

-- of the ids of a kind the latest in an order, the first of them first: all of them, or so many
pub record AreLatest (comes_before : ℕ → ℕ → Type 0) (kind : ℕ → Type 0) (most : ℕ) (ids : List ℕ) : Type 0 where
  pub each : (id : ℕ) → Contains ids id → kind id
  pub few : length ids ≤ most
  pub all : length ids < most → (id : ℕ) → kind id → Contains ids id
  pub latest : (stays id : ℕ) → kind stays → (Contains ids stays → ⊥) → Contains ids id → comes_before stays id
  pub rising : AllPairs comes_before ids

-- the last of the ids, as many as move at once, after one more is inserted at this place
abbrev pub with_one : List ℕ → ℕ → ℕ → List ℕ
with_one ids place id = drop (length ids + 1 - MAX_MOVED) (insert ids place id)

-- of the first places' ids other than the requester's, the latest
pub record IsLatestOther (view : View) (tile : ℕ) (asker : Asker) (count id : ℕ) : Type 0 where
  pub among : IsAmong view tile count id
  pub other : asker ≢ Enqueuer id
  pub last : (k : ℕ) → IsAmong view tile count k → k ≢ id → asker ≢ Enqueuer k → Precedes view tile k id
