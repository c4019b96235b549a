-- What holds of the order of the tasks of the machine in every state; a dispatch number is the tiebreaker of a
-- virtual time (Jeffrey et al. 2015).
use Rattle.std.specs.Prelude.{◌≡◌, ◌<◌, ◌≤◌, ◌⊎◌, ℕ, List, [], ◌∷◌, length, Option, Some, None}
use Rattle.std.specs.List.{AllByRecursion, AllZip}
use Rattle.std.specs.declared.cmp.Ordering.TheVariants.{Less}
use Rattle.fractal_vt.specs.Levels.{Open, level_cmp, levels_cmp}
use Rattle.fractal_vt.specs.Paths.{OnPath}
use Rattle.fractal_vt.specs.declared.vt.TheConstants.{MAX_LEVELS}
use Rattle.order_law.specs.Tasks.{Keyed, levels_of, HasNumber, IsTimely, Kin}

-- the tiebreaker is a number below this one
abbrev pub TieBelow : ℕ → Option ℕ → Type 0
TieBelow next None = ⊥
TieBelow next (Some number) = number < next

-- each level has a number below this one
abbrev pub LevelsBelow : ℕ → List Open → Type 0
LevelsBelow next = AllByRecursion (λ level. TieBelow next level.tb)

-- the number is that of one of the levels
abbrev pub IsNumberOf : ℕ → List Open → Type 0
IsNumberOf number [] = ⊥
IsNumberOf number (level ∷ levels) = (level.tb ≡ Some number) ⊎ IsNumberOf number levels

-- no two levels have one number
abbrev pub NumbersDiffer : List Open → Type 0
NumbersDiffer [] = Unit {0}
NumbersDiffer (level ∷ levels) = ((number : ℕ) → level.tb ≡ Some number → IsNumberOf number levels → ⊥)
    × NumbersDiffer levels

-- the creator is a dispatched task below the child, which is in one of the three domains (`Place`)
pub record HasCreator (tasks : ℕ → Option Keyed) (creator : ℕ) (child : Keyed) : Type 0 where
  pub task : Keyed
  pub there : tasks creator ≡ Some task
  pub number : ℕ
  pub dispatched : HasNumber task number
  pub below : levels_cmp (levels_of task) (levels_of child) ≡ Less
  pub kin : Kin task child

-- the key is at most as deep as a key may be (the laws hold of any bound), and each of its timestamps is one that its
-- domain has
abbrev pub IsShaped : Keyed → Type 0
IsShaped task = (length task.domain < MAX_LEVELS) × AllZip IsTimely task.kinds task.domain
    × IsTimely task.ordered task.last

-- the tasks, queued and spilled, by id, the path of the last commit and the next dispatch number are in order: the
-- path is no longer than a key may be; the numbers of the path, of the domains and of the tasks are below the next
-- one, those of the path differ, those of the tasks differ and are none of the path, each uncommitted creator is
-- dispatched and below its children, each task of a committed creator is on the path, and each key has the shape of
-- one
pub record IsOrdered (tasks : ℕ → Option Keyed) (path : List Open) (next : ℕ) : Type 0 where
  pub path_short : length path ≤ MAX_LEVELS
  pub path_numbers : LevelsBelow next path
  pub path_differs : NumbersDiffer path
  pub domain_numbers : (id : ℕ) (task : Keyed) → tasks id ≡ Some task → LevelsBelow next task.domain
  pub number_below : (id : ℕ) (task : Keyed) (n : ℕ) → tasks id ≡ Some task → HasNumber task n → n < next
  pub numbers_differ : (a b : ℕ) (x y : Keyed) (n : ℕ) → tasks a ≡ Some x → tasks b ≡ Some y → HasNumber x n
      → HasNumber y n → a ≡ b
  pub off_path : (id : ℕ) (task : Keyed) (n : ℕ) → tasks id ≡ Some task → HasNumber task n → IsNumberOf n path → ⊥
  pub creators : (id : ℕ) (task : Keyed) (creator : ℕ) → tasks id ≡ Some task → task.creator ≡ Some creator
      → HasCreator tasks creator task
  pub on_path : (id : ℕ) (task : Keyed) → tasks id ≡ Some task → task.creator ≡ None
      → OnPath level_cmp path task.domain task.last
  pub shaped : (id : ℕ) (task : Keyed) → tasks id ≡ Some task → IsShaped task
