-- The serial machine's state.
use Rattle.std.specs.Prelude.{ℕ, ◌≡◌, ◌≤◌, ◌+◌, List, [], ◌∷◌, length}
use Rattle.task_desc.specs.declared.calls.TheConstants.{MAX_DEPTH}
use Rattle.serial_machine.specs.BagValue.{BagValue}

-- the stack of bags, innermost first, the memory, the output and the number of turns
pub record SerialState : Type 0 where
  pub stack : List BagValue
  pub memory : List ℕ
  pub output : List ℕ
  pub count : ℕ

-- what contracts see of a machine: its state, and the budget of each task
pub record SerialValue : Type 0 where
  pub state : SerialState
  pub budget : ℕ

-- the depths of a stack fall by one down to 1, and none is above the greatest
abbrev pub IsStack : List BagValue → Type 0
IsStack [] = Unit {0}
IsStack (bag ∷ outer) = (bag.depth ≡ length outer + 1) × (bag.depth ≤ MAX_DEPTH) × IsStack outer
