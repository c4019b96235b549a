-- What a closed book leaves is a run.
use Rattle.guest_image.specs.ImageValue.{ImageValue}
use Rattle.event_step.proofs.Below.run_law.Proved.{lawful}
use Rattle.event_step.specs.spec_law.Sound.{Sound}
use Rattle.run_journal.specs.declared.closed.Closed.{Closed}
use Rattle.event_step.specs.event_def.Book.{BookView}
use Rattle.event_step.specs.event_def.Closing.{Closes}
use Rattle.event_step.proofs.Below.event_law.Proved.{close_is_serial}
use Rattle.conflict_book.specs.Left.{LeavesLawfulRun}

-- a sound book that is closed leaves a run, which keeps the laws of runs
pub closed_is_run : (image : ImageValue) (book : BookView) (closed : Closed) → Sound image book.view
    → Closes book closed
    → LeavesLawfulRun image book.view.settings.budget closed
closed_is_run image book closed sound closes =
    let run = close_is_serial image book closed sound closes in
    record {
      serial = run.0;
      is_run = run.1;
      memory = run.2;
      output = run.3;
      lawful = lawful image book.view.settings.budget closed.journal run.0 run.1;
    }
