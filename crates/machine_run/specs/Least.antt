-- Runs that are made by events of the least tasks.
use Rattle.std.specs.Prelude.{ℕ, List, Some, None, IfSome}
use Rattle.std.specs.declared.option.Option.{Option}
use Rattle.guest_image.specs.ImageValue.{ImageValue}
use Rattle.place_policy.specs.Policy.{Policy}
use Rattle.trace_tap.specs.TapValue.{TapValue}
use Rattle.run_journal.specs.declared.end.End.{End}
use Rattle.outcome_law.specs.serial_machine.declared.whole_run.SerialRun.{SerialRun}
use Rattle.outcome_law.specs.spec_state.declared.settings.Settings.{Settings}
use Rattle.run_journal.specs.declared.closed.Closed.{Closed}
use Rattle.outcome_law.specs.event_def.declared.event.Halt.{Halt}
use Rattle.outcome_law.specs.event_def.declared.event.Halt.TheVariants as halts
use Rattle.outcome_law.specs.event_def.Book.{BookView}
use Rattle.outcome_law.specs.event_def.Opening.{IsOpening}
use Rattle.outcome_law.specs.event_def.Advancing.{AdvancesBy}
use Rattle.outcome_law.specs.event_def.End.{HasEnd}
use Rattle.machine_run.specs.Leaving.{LeavesRun}

-- so many events of the least tasks lead from an opening, with these placers and taps, to a book that leaves this run
-- and has counted them, and which ends so if the run has an end
pub record IsLeastRun (N : Type 0) (image : ImageValue) (settings : Settings)
    (placers : List Policy) (taps : List TapValue) (events : ℕ) (run : SerialRun) : Type 0 where
  pub opening : BookView
  pub is_opening : IsOpening image settings placers taps opening
  pub last : BookView
  pub advances : AdvancesBy N image events opening last
  pub leaves : LeavesRun last events run
  pub end_is : IfSome run.end (HasEnd last.view)

-- the run that a closed book leaves, with this end
abbrev pub run_of_closed : Closed → Option End → SerialRun
run_of_closed closed end =
    record { journal = closed.journal; memory = closed.memory; output = closed.output; end = end }

-- the end of a run that halted so; none where memory ran out
abbrev pub end_of_halt : Halt → Option End
end_of_halt (halts.Ended end) = Some end
end_of_halt halts.Memory = None
