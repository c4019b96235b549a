-- The table of answers: which status and which text an image gets, and why.
use Rattle.std.specs.Prelude.{◌≡◌, ◌⊎◌, ℕ, List, [], None, Some}
use Rattle.guest_image.specs.ImageValue.{ImageValue}
use Rattle.run_journal.specs.declared.end.End.{End}
use Rattle.watch_play.specs.machine_run.Played.{StandsAt}
use Rattle.sim_io.specs.Parts.{SinkTakes}
use Rattle.watch_play.specs.Courses.{EndsAt}
use Rattle.watch_play.specs.Telling.{TookMost}
use Rattle.program_call.specs.declared.outcome.Outcome.{Outcome}
use Rattle.program_call.specs.Outcomes.{IsEmpty}
use Rattle.program_call.specs.Call.{Call, Input}
use Rattle.fractal_watch.specs.Given.{IsWatchNoScript}
use Rattle.fractal_watch.specs.Texts.{script_fault_object, watch_status}
use Rattle.fractal_watch.specs.Watched.{IsWatched, lines_of_watched, plan_of, text_of_watched}

-- the run was played to its end, where it stands so
pub record IsPlayed {N : Type 0} {image : ImageValue} {input : Input} {o : Outcome}
    (watched : IsWatched N image input o) (end : End) : Type 0 where
  pub ends : EndsAt (plan_of watched.asking image watched.script).course watched.story.stage watched.book.view
  pub stands : StandsAt watched.book.view end

-- the script is refused; or the run was played to its end (0, 3, 4), and the text is the lines of its story and the
-- last line, which says how the run stands, or the memory that it leaves
pub data IsAnswer (N : Type 0) (image : ImageValue) (input : Input) (o : Outcome) : ℕ → List ℕ → Type 0 where
  NoScript : (line : ℕ) → IsWatchNoScript input line → IsEmpty o
      → IsAnswer N image input o 9 (script_fault_object line)
  Played : (watched : IsWatched N image input o) (end : End) → IsPlayed watched end → o.end ≡ Some end
      → IsAnswer N image input o (watch_status end) (text_of_watched watched end)

-- memory ran out after the beginning of a run: the outcome holds the run so far, without an end, and the sink took
-- nothing of a run at its opening, or the lines of all moments, or of all but the last; or the whole text of a run
-- that was played to its end, with the counts there where counts are printed
pub record IsWantOnTheWay (N : Type 0) (image : ImageValue) (call : Call) (o : Outcome) : Type 0 where
  pub watched : IsWatched N image call.input o
  pub end_is : o.end ≡ None
  pub took : ((watched.moments ≡ []) × (call.sink_after ≡ call.sink_before))
      ⊎ TookMost (plan_of watched.asking image watched.script) watched.opening watched.moments watched.book
      watched.story call.sink_before call.sink_after
      ⊎ (EndsAt (plan_of watched.asking image watched.script).course watched.story.stage watched.book.view
      × SinkTakes call.sink_before call.sink_after (lines_of_watched watched))

-- a sink that failed may have taken a part of this text: the line for a script that is refused, the lines of a story so
-- far, or these and what comes at the end; the run stopped there, and no end is printed
pub data IsCutText (N : Type 0) (image : ImageValue) (input : Input) (o : Outcome) : List ℕ → Type 0 where
  OfNoScript : (line : ℕ) → IsWatchNoScript input line → IsEmpty o
      → IsCutText N image input o (script_fault_object line)
  OfStory : (watched : IsWatched N image input o) → o.end ≡ None
      → IsCutText N image input o (lines_of_watched watched)
  OfEnd : (watched : IsWatched N image input o) (end : End) → IsPlayed watched end → o.end ≡ None
      → IsCutText N image input o (text_of_watched watched end)
