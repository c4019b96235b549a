-- A dispatch for which a number is made free first.
use Rattle.std.specs.Prelude.{ℕ}
use Rattle.spec_state.specs.View.{View}
use Rattle.spec_state.specs.Numbers.{IsInUse, IsPathsOrTasks, FreesNumber}
use Rattle.spec_state.specs.Changes.{Dispatches}

-- the numbers in use are renumbered where none is left, and then the least idle task of the tile is dispatched
pub record NumbersAndDispatches (tile : ℕ) (old new : View) : Type 0 where
  pub ready : View
  pub number : FreesNumber old ready
  pub change : Dispatches tile ready new

-- each dispatch number in use is one of the path or of a dispatched task
abbrev pub AreNumbersHeld : View → Type 0
AreNumbersHeld view = (number : ℕ) → IsInUse view number → IsPathsOrTasks view number
