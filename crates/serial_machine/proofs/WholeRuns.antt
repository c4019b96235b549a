-- Runs that go on.
use Rattle.std.proofs.Common.{◌≡◌, refl, ap, ◌∙◌, ℕ, List, [], ◌∷◌, ◌++◌, Some}
use Rattle.guest_image.specs.ImageValue.{ImageValue}
use Rattle.run_journal.specs.declared.journal.Entry.{Entry}
use Rattle.serial_machine.specs.State.{SerialState}
use Rattle.serial_machine.specs.Turn.{turn}
use Rattle.serial_machine.specs.Run.{Runs}

-- a run goes on by one more turn
pub Runs-more : (image : ImageValue) (budget : ℕ) (es : List Entry) (s before after : SerialState) (e : Entry)
    → Runs image budget s es before → turn image budget before e.name ≡ Some (after, e)
    → Runs image budget s (es ++ e ∷ []) after
Runs-more image budget [] s before after e run t = (after, ap (λ m. turn image budget m e.name) run ∙ t, refl)
Runs-more image budget (x ∷ xs) s before after e (mid, first, rest) t =
    (mid, first, Runs-more image budget xs mid before after e rest t)
