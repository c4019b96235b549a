-- The dispatch numbers that are in use, and their renumbering once all numbers are given: as tiebreakers of
-- hardware they have few bits (Subramanian et al. 2017, tiebreakers that wrap around).
use Rattle.std.specs.Prelude.{◌≡◌, ◌⊎◌, ◌↔◌, ℕ, ◌<◌, ◌≤◌, List, length, map, Contains, Some, option_map}
use Rattle.std.specs.List.Sorted.{IsStrictlyIncreasing}
use Rattle.fractal_vt.specs.declared.level.Level.{Level}
use Rattle.fractal_vt.specs.Renumbered.{renumbered_levels, renumbered_key}
use Rattle.spill_store.specs.SpilledTasks.{Spilled, renumbered_spilled}
use Rattle.spec_state.specs.declared.numbers.TheConstants.{DISPATCH_NUMBERS}
use Rattle.spec_state.specs.declared.task.Task.{Task}
use Rattle.spec_state.specs.View.{View, task_at}
use Rattle.spec_state.specs.Groups.{all_spilled}

-- the number is the tiebreaker of one of these levels
abbrev pub IsTieOf : List Level → ℕ → Type 0
IsTieOf levels number = Contains (map (λ level. level.tb) levels) number

-- the number is in use: it is a tiebreaker of the path, of the domain of an uncommitted task, or of a dispatched
-- task's own level
pub data IsInUse (view : View) (number : ℕ) : Type 0 where
  on_path : IsTieOf view.path number → IsInUse view number
  in_domain : (id : ℕ) (task : Task) → task_at view id ≡ Some task → IsTieOf task.key.domain number
      → IsInUse view number
  of_task : (id : ℕ) (task : Task) → task_at view id ≡ Some task → task.key.tb ≡ Some number → IsInUse view number
  of_spilled : (s : Spilled) → Contains (all_spilled view) s → IsTieOf s.domain number → IsInUse view number

-- the number is a tiebreaker of the path or of a dispatched task's own level
abbrev pub IsPathsOrTasks : View → ℕ → Type 0
IsPathsOrTasks view number =
    IsTieOf view.path number
    ⊎ ((id : ℕ) × (task : Task) × (task_at view id ≡ Some task) × (task.key.tb ≡ Some number))

-- the table has exactly the numbers in use, in rising order
pub record IsNumberTable (view : View) (table : List ℕ) : Type 0 where
  pub rising : IsStrictlyIncreasing table
  pub exact : (number : ℕ) → Contains table number ↔ IsInUse view number

-- the task with the places of its tiebreakers in the table in their stead
abbrev pub renumbered_task : List ℕ → Task → Task
renumbered_task table task = record task { key = renumbered_key table task.key }

-- a renumbering: each tiebreaker, those of the path among them, becomes its place among the numbers in use, counted
-- from 0, and the next dispatch number is the count of these; one equation over the slots says that no slot is added
pub record Renumbers (old new : View) : Type 0 where
  pub table : List ℕ
  pub is_table : IsNumberTable old table
  pub tasks : new.tasks ≡ map (option_map (renumbered_task table)) old.tasks
  pub blocks : new.blocks ≡ map (map (renumbered_spilled table)) old.blocks
  pub path : new.path ≡ renumbered_levels table old.path
  pub next : new.next ≡ length table
  pub frame : new ≡ record old { tasks = new.tasks; blocks = new.blocks; path = new.path; next = new.next }

-- a dispatch number is left, or else those in use are renumbered: where the next is 65,536 or
-- more, so that every view is spoken of; in a sound one it is 65,536 then
pub data FreesNumber (old : View) : View → Type 0 where
  has_free : old.next < DISPATCH_NUMBERS → FreesNumber old old
  renumbers : (new : View) → DISPATCH_NUMBERS ≤ old.next → Renumbers old new → FreesNumber old new
