-- Dispatch numbers replaced by their places in a strictly rising table.
use Rattle.std.specs.Prelude.{◌≡◌, ℕ, List, Option, Some, Contains, IfSome, map, option_map}
use Rattle.std.specs.List.{AllByRecursion}
use Rattle.std.specs.List.Sorted.{IsStrictlyIncreasing}
use Rattle.fractal_vt.specs.Levels.{Open}
use Rattle.fractal_vt.specs.Renumbered.{with_number}
use Rattle.order_law.specs.Tasks.{Keyed, levels_of}

-- the task with other numbers in all its levels
abbrev pub new_task : (ℕ → ℕ) → Keyed → Keyed
new_task number task = record task {
  domain = map (with_number number) task.domain;
  last = with_number number task.last;
}

-- all tasks with other numbers
abbrev pub renumbered_keyed_tasks : (ℕ → ℕ) → (ℕ → Option Keyed) → ℕ → Option Keyed
renumbered_keyed_tasks number tasks id = option_map (new_task number) (tasks id)

-- each level is open or has a number in use
abbrev pub LevelsIn : (ℕ → Type 0) → List Open → Type 0
LevelsIn used = AllByRecursion (λ level. IfSome level.tb used)

-- the table rises strictly and holds each number of the path and of the tasks' keys
pub record IsTableOf (table : List ℕ) (tasks : ℕ → Option Keyed) (path : List Open) : Type 0 where
  pub rising : IsStrictlyIncreasing table
  pub of_path : LevelsIn (Contains table) path
  pub of_tasks : (id : ℕ) (task : Keyed) → tasks id ≡ Some task → LevelsIn (Contains table) (levels_of task)
