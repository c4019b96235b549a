-- Every run keeps the laws.
use Rattle.std.proofs.Common.{ℕ, List}
use Rattle.guest_image.specs.ImageValue.{ImageValue}
use Rattle.run_journal.specs.declared.journal.Entry.{Entry}
use Rattle.serial_machine.specs.State.{SerialState}
use Rattle.serial_machine.specs.Run.{IsRun}
use Rattle.run_law.specs.Laws.{AreLawful}
use Rattle.run_law.proofs.Distinct.{distinct}
use Rattle.run_law.proofs.Complete.{complete}
use Rattle.run_law.proofs.Deeper.{deeper}
use Rattle.run_law.proofs.Forced.{forced}

pub lawful : (image : ImageValue) → (budget : ℕ) → (journal : List Entry) → (state : SerialState)
    → IsRun image budget journal state → AreLawful image budget journal state
lawful image budget journal state run = record {
  distinct = distinct image budget journal state run;
  complete = complete image budget journal state run;
  deeper = deeper image budget journal state run;
  forced = forced image budget journal state run;
}
