-- Laws of scripts that are played twice.
use Rattle.std.specs.Prelude.{◌≡◌, ℕ, List, All}
use Rattle.guest_image.specs.ImageValue.{ImageValue, IsImage}
use Rattle.place_policy.specs.Policy.{Policy}
use Rattle.trace_tap.specs.TapValue.{TapValue}
use Rattle.run_journal.specs.declared.end.End.{End}
use Rattle.outcome_law.specs.serial_machine.declared.whole_run.SerialRun.{SerialRun}
use Rattle.outcome_law.specs.spec_state.declared.settings.Settings.{Settings}
use Rattle.outcome_law.specs.spec_state.Settings.{IsValid}
use Rattle.outcome_law.specs.step_script.declared.act.Act.{Act}
use Rattle.outcome_law.specs.step_script.declared.saying.Said.{Said}
use Rattle.outcome_law.specs.step_script.Ranges.{ActIsInRange}
use Rattle.machine_run.specs.Played.{IsPlayedRun, IsTracedRun}

-- both left one run, with one end, by as many events
pub record IsOneRun (events other_events : ℕ) (end other_end : End) (run other_run : SerialRun) : Type 0 where
  pub events_are : other_events ≡ events
  pub end_is : other_end ≡ end
  pub run_is : other_run ≡ run

-- a script that is played twice from an opening to its end, with the same placers and taps, says and leaves one thing
abbrev pub PlayedRunIsOne : Type 0 → Type 0
PlayedRunIsOne N =
    (image : ImageValue) (settings : Settings) (script : List Act) (placers : List Policy) (taps : List TapValue)
    (said other_said : List Said) (events other_events : ℕ) (end other_end : End) (run other_run : SerialRun)
    → IsImage image → IsValid settings → All (ActIsInRange settings.tiles settings.cores) script
    → IsPlayedRun N image settings script placers taps said events end run
    → IsPlayedRun N image settings script placers taps other_said other_events other_end other_run
    → (other_said ≡ said) × IsOneRun events other_events end other_end run other_run

-- a script that is played twice for its taps, from an opening to its end, gives the same lists
abbrev pub TracedRunIsOne : Type 0 → Type 0
TracedRunIsOne N =
    (image : ImageValue) (settings : Settings) (script : List Act) (placers : List Policy) (taps : List TapValue)
    (lists other_lists : List (List ℕ)) (events other_events : ℕ) (end other_end : End) (run other_run : SerialRun)
    → IsImage image → IsValid settings → All (ActIsInRange settings.tiles settings.cores) script
    → IsTracedRun N image settings script placers taps lists events end run
    → IsTracedRun N image settings script placers taps other_lists other_events other_end other_run
    → (other_lists ≡ lists) × IsOneRun events other_events end other_end run other_run
