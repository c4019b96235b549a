-- What is left of a run of the machine, from its opening to the close.
use Rattle.std.specs.Prelude.{◌≡◌, ◌≢◌, ℕ, Bool, true, List, length, IfSome, IsSome, Some}
use Rattle.guest_image.specs.ImageValue.{ImageValue}
use Rattle.place_policy.specs.Policy.{Policy}
use Rattle.trace_tap.specs.TapValue.{TapValue}
use Rattle.run_journal.specs.declared.end.End.TheVariants as ends
use Rattle.outcome_law.specs.serial_machine.WholeRun.{IsRunOf}
use Rattle.outcome_law.specs.spec_state.declared.settings.Settings.{Settings}
use Rattle.machine_run.specs.declared.left.Ran.{Ran}
use Rattle.machine_run.specs.declared.left.Stopped.{Stopped}
use Rattle.machine_run.specs.Least.{IsLeastRun, run_of_closed}
use Rattle.machine_run.specs.Stopping.{IsStoppedWith}

-- what is left is a run of the serial machine, with a memory as large as the image's data
pub record IsLeftOf (image : ImageValue) (commits budget : ℕ) (ran : Ran) : Type 0 where
  pub run : IsRunOf image commits budget (run_of_closed ran.closed ran.end)
  pub writable : length ran.closed.memory ≡ image.data_size

-- what is left is a run of the image, which was run to its end, or as far as memory allowed
pub record IsHalted (image : ImageValue) (commits budget : ℕ) (ran : Ran) : Type 0 where
  pub left : IsLeftOf image commits budget ran
  pub over : ran.end ≢ Some ends.Unfinished

-- pending tasks are kept only of a run that met its commit limit, and of each that was to be saved and has that end
pub record KeepsPending (image : ImageValue) (budget : ℕ) (goes_on : Bool) (stopped : Stopped) : Type 0 where
  pub pending : IfSome stopped.pending (IsStoppedWith image budget stopped.ran)
  pub limit : goes_on ≡ true → stopped.ran.end ≡ Some ends.Limit → IsSome stopped.pending

-- the image was run with these settings, without workers by the events of the least tasks, with these placers and taps
pub record IsMachineRun (N : Type 0) (image : ImageValue) (settings : Settings) (placers : List Policy)
    (taps : List TapValue) (ran : Ran) : Type 0 where
  pub least : settings.workers ≡ 0
      → IsLeastRun N image settings placers taps ran.closed.steps (run_of_closed ran.closed ran.end)
  pub halted : IsHalted image settings.commits settings.budget ran
