-- What a closed book means.
use Rattle.std.specs.Prelude.{◌≡◌, ℕ}
use Rattle.guest_image.specs.ImageValue.{ImageValue}
use Rattle.event_step.specs.run_law.Laws.{AreLawful}
use Rattle.event_step.specs.serial_machine.Run.{IsRun}
use Rattle.event_step.specs.serial_machine.State.{SerialState}
use Rattle.run_journal.specs.declared.closed.Closed.{Closed}

-- the journal is a run of the serial machine, with this memory and output, and keeps the laws of runs
pub record LeavesLawfulRun (image : ImageValue) (budget : ℕ) (closed : Closed) : Type 0 where
  pub serial : SerialState
  pub is_run : IsRun image budget closed.journal serial
  pub memory : closed.memory ≡ serial.memory
  pub output : closed.output ≡ serial.output
  pub lawful : AreLawful image budget closed.journal serial
