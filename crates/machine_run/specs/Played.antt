-- Runs that are made by a written script.
use Rattle.std.specs.Prelude.{◌≡◌, ℕ, List, map, Some, None, IfSome}
use Rattle.guest_image.specs.ImageValue.{ImageValue}
use Rattle.place_policy.specs.Policy.{Policy}
use Rattle.trace_tap.specs.TapValue.{TapValue}
use Rattle.run_journal.specs.declared.end.End.{End}
use Rattle.run_journal.specs.declared.end.End.TheVariants as ends
use Rattle.outcome_law.specs.serial_machine.declared.whole_run.SerialRun.{SerialRun}
use Rattle.outcome_law.specs.spec_state.declared.settings.Settings.{Settings}
use Rattle.outcome_law.specs.spec_state.View.{View}
use Rattle.outcome_law.specs.event_def.Book.{BookView}
use Rattle.outcome_law.specs.event_def.Opening.{IsOpening}
use Rattle.outcome_law.specs.event_def.End.{HasEnd, IsOver}
use Rattle.outcome_law.specs.step_script.declared.act.Act.{Act}
use Rattle.outcome_law.specs.step_script.declared.saying.Said.{Said}
use Rattle.outcome_law.specs.step_script.Playing.{Plays, PlaysSome}
use Rattle.machine_run.specs.declared.playing.Played.{Played}
use Rattle.machine_run.specs.declared.playing.Traced.{Traced}
use Rattle.machine_run.specs.Leaving.{LeavesRun}
use Rattle.machine_run.specs.Least.{run_of_closed}

-- the run is over with this end, or it isn't over and the end is `Unfinished`
abbrev pub StandsAt : View → End → Type 0
StandsAt view ends.Unfinished = IsOver view → ⊥
StandsAt view end = HasEnd view end

-- the script, played from an opening with these placers and taps and with these replies, leads to a book that leaves
-- this run, has counted so many events, and has this end
pub record IsPlayedRun (N : Type 0) (image : ImageValue) (settings : Settings) (script : List Act)
    (placers : List Policy) (taps : List TapValue) (said : List Said) (events : ℕ) (end : End)
    (run : SerialRun) : Type 0 where
  pub opening : BookView
  pub is_opening : IsOpening image settings placers taps opening
  pub last : BookView
  pub plays : Plays N image script opening said last
  pub leaves : LeavesRun last events run
  pub stands : StandsAt last.view end
  pub end_is : run.end ≡ Some end

-- memory ran out: some first acts of the script, or all, played from such an opening, lead to a book that leaves this
-- run and has counted so many events, and its end is None; how many acts is unknown, and a trace, whose lists follow
-- them, may have made all
pub record IsPlayedInPart (N : Type 0) (image : ImageValue) (settings : Settings) (script : List Act)
    (placers : List Policy) (taps : List TapValue) (events : ℕ) (run : SerialRun) : Type 0 where
  pub opening : BookView
  pub is_opening : IsOpening image settings placers taps opening
  pub last : BookView
  pub plays : PlaysSome N image script opening last
  pub leaves : LeavesRun last events run
  pub end_is : run.end ≡ None

-- the lists of a book's taps
abbrev pub tap_lists : BookView → List (List ℕ)
tap_lists book = map (λ reading. reading.list) book.taps

-- the script, played from one book on, leads to another, whose taps have these lists
pub record LeavesTapLists (N : Type 0) (image : ImageValue) (script : List Act) (old : BookView) (lists : List (List ℕ))
    (new : BookView) : Type 0 where
  pub said : List Said
  pub plays : Plays N image script old said new
  pub lists_are : lists ≡ tap_lists new

-- a script was played so, and its taps have these lists then
pub record IsTracedRun (N : Type 0) (image : ImageValue) (settings : Settings) (script : List Act)
    (placers : List Policy) (taps : List TapValue) (lists : List (List ℕ)) (events : ℕ) (end : End)
    (run : SerialRun) : Type 0 where
  pub said : List Said
  pub played : IsPlayedRun N image settings script placers taps said events end run
  pub lists_are : lists ≡ tap_lists played.last

-- a script was played to its end, or as far as memory went
pub record IsPlayedOrPart (N : Type 0) (image : ImageValue) (settings : Settings) (script : List Act)
    (placers : List Policy) (taps : List TapValue) (p : Played) : Type 0 where
  pub played : IfSome p.ran.end (λ end. IsPlayedRun N image settings script placers taps p.said.items
      p.ran.closed.steps end (run_of_closed p.ran.closed p.ran.end))
  pub part : p.ran.end ≡ None → IsPlayedInPart N image settings script placers taps p.ran.closed.steps
      (run_of_closed p.ran.closed p.ran.end)

-- a script that was played for its taps was played to this end, or in part if memory ran out
pub record IsTracedOrPart (N : Type 0) (image : ImageValue) (settings : Settings) (script : List Act)
    (placers : List Policy) (taps : List TapValue) (t : Traced) : Type 0 where
  pub traced : IfSome t.ran.end (λ end. IsTracedRun N image settings script placers taps
      (map (λ list. list.items) t.lists.items) t.ran.closed.steps end (run_of_closed t.ran.closed t.ran.end))
  pub part : t.ran.end ≡ None → IsPlayedInPart N image settings script placers taps t.ran.closed.steps
      (run_of_closed t.ran.closed t.ran.end)
