-- The least task once it is dispatched, which is then the next to commit, and what lies above it.
use Rattle.std.specs.Prelude.{◌≡◌, ◌≢◌, ◌⊎◌, ℕ, Bool, true, List, Option, Some}
use Rattle.std.specs.declared.cmp.Ordering.TheVariants.{Less}
use Rattle.fractal_vt.specs.Levels.{Open, levels_cmp}
use Rattle.order_law.specs.Tasks.{Keyed, levels_of, HasNumber}

-- the task is dispatched, and all others are above it
pub record IsHeirInKeys (tasks : ℕ → Option Keyed) (id : ℕ) (task : Keyed) : Type 0 where
  pub there : tasks id ≡ Some task
  pub number : ℕ
  pub dispatched : HasNumber task number
  pub least : (k : ℕ) (x : Keyed) → k ≢ id → tasks k ≡ Some x → levels_cmp (levels_of task) (levels_of x) ≡ Less

-- under this id stands a task above these levels
abbrev pub IsAbove : (ℕ → Option Keyed) → List Open → ℕ → Type 0
IsAbove tasks low id = (x : Keyed) × (tasks id ≡ Some x) × (levels_cmp low (levels_of x) ≡ Less)

-- a task pulls no other than its children and tasks above it
abbrev pub PullsLater : (ℕ → Option Keyed) → (ℕ → ℕ → Bool) → Type 0
PullsLater tasks pull =
    (a b : ℕ) → pull a b ≡ true
    → (x : Keyed) × (y : Keyed) × (tasks a ≡ Some x) × (tasks b ≡ Some y)
    × ((y.creator ≡ Some a) ⊎ (levels_cmp (levels_of x) (levels_of y) ≡ Less))
