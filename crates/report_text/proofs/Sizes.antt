-- A turn counts one and keeps the size of the memory.
use Rattle.std.proofs.Common.{◌≡◌, ℕ, ◌+◌, length, Some, ap}
use Rattle.guest_image.specs.ImageValue.{ImageValue}
use Rattle.run_law.proofs.Proved.{turn-did, turned-keeps}
use Rattle.task_desc.specs.declared.desc.Name.{Name}
use Rattle.run_journal.specs.declared.journal.Entry.{Entry}
use Rattle.run_law.specs.serial_machine.State.{SerialState}
use Rattle.run_law.specs.serial_machine.Turn.{turn}

-- a turn counts one and keeps the size of the memory
pub record TurnKeeps (s after : SerialState) : Type 0 where
  pub count : after.count ≡ s.count + 1
  pub size : length after.memory ≡ length s.memory

pub turn-keeps : (image : ImageValue) (budget : ℕ) (s after : SerialState) (name : Name) (e : Entry)
    → turn image budget s name ≡ Some (after, e) → TurnKeeps s after
turn-keeps image budget s after name e is =
    let did = turn-did image budget s after name e is in
    record { count = ap (λ t. t.count) did.state; size = turned-keeps image budget s after name e did }
