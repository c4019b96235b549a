-- Which dispatch numbers are in use, and that few are; a renumbered view says what the view before it said: numbers are
-- read by comparison alone.
use Rattle.std.specs.Prelude.{◌≡◌, ◌↔◌, ℕ, ◌≤◌, Bool, List, length, Option, Some}
use Rattle.abort_cascade.specs.Cascade.{Marked}
use Rattle.guest_image.specs.ImageValue.{ImageValue}
use Rattle.spec_state.specs.declared.numbers.TheConstants.{MAX_NUMBERS_IN_USE}
use Rattle.spec_state.specs.declared.task.Task.{Task}
use Rattle.spec_state.specs.View.{View, task_at}
use Rattle.spec_state.specs.Least.{Spot, IsLeastSpot, IsHeir}
use Rattle.spec_state.specs.Queries.{Conflicts}
use Rattle.spec_state.specs.Aborts.{IsCascade, IsUndone}
use Rattle.spec_state.specs.Numbers.{IsInUse, IsPathsOrTasks, IsNumberTable, Renumbers, renumbered_task}
use Rattle.spec_law.specs.Sound.{Sound}

-- in a sound view each number in use is one of the path or that of a dispatched task, so that no domain has another
abbrev pub NumbersAreHeld : Type 0
NumbersAreHeld =
    (image : ImageValue) (view : View) → Sound image view → (number : ℕ) → IsInUse view number
    → IsPathsOrTasks view number

-- of a sound view's dispatch numbers few are in use
abbrev pub NumbersInUseAreFew : Type 0
NumbersInUseAreFew =
    (image : ImageValue) (view : View) → Sound image view
    → (table : List ℕ) → IsNumberTable view table → length table ≤ MAX_NUMBERS_IN_USE

-- a renumbering keeps a view sound, against the same state of the serial machine and with the same dispatched least
-- task
abbrev pub RenumberingStaysSound : Type 0
RenumberingStaysSound =
    (image : ImageValue) (old new : View) (sound : Sound image old) → Renumbers old new
    → (now : Sound image new) × (now.serial ≡ sound.serial) × (now.heir ≡ sound.heir)

-- the views have the same least task, dispatched or not; each access conflicts with the same tasks; the same tasks are
-- aborted with each; and a rollback of any set of tasks leaves the same memory
pub record SaySame (table : List ℕ) (old new : View) : Type 0 where
  pub least : (spot : Spot) → IsLeastSpot old spot ↔ IsLeastSpot new spot
  pub heir : (heir : Option ℕ) → IsHeir old heir ↔ IsHeir new heir
  pub conflicts : (id line k : ℕ) (task : Task) (write : Bool) → task_at old id ≡ Some task
      → Conflicts old task line write k ↔ Conflicts new (renumbered_task table task) line write k
  pub cascades : (firsts marks : List Bool) → IsCascade old (Marked firsts) marks ↔ IsCascade new (Marked firsts) marks
  pub undone : (set : ℕ → Bool) (memory : List ℕ) → IsUndone old set memory ↔ IsUndone new set memory

-- a renumbered view says the same as the view before
abbrev pub RenumberingSaysSame : Type 0
RenumberingSaysSame = (old new : View) (renumbers : Renumbers old new) → SaySame renumbers.table old new
