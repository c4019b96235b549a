-- A watched run is closed, and its last line is printed, or the memory that it leaves.
use Rattle.std.specs.Prelude.{◌≡◌, ℕ, List, length, None, Some}
use Rattle.std.specs.declared.option.Option.{Option}
use Rattle.guest_image.specs.ImageValue.{ImageValue}
use Rattle.run_journal.specs.declared.closed.Closed.{Closed}
use Rattle.run_journal.specs.declared.end.End.{End}
use Rattle.sim_io.specs.Causes.{Rose}
use Rattle.sim_io.specs.Parts.{SinkTakes, TakesFront}
use Rattle.sim_io.specs.Streams.{SinkState}
use Rattle.watch_play.specs.event_def.Book.{BookView}
use Rattle.watch_play.specs.event_def.Closing.{Closes}
use Rattle.watch_play.specs.serial_machine.WholeRun.{IsRunOf}
use Rattle.watch_play.specs.machine_run.Least.{run_of_closed}
use Rattle.watch_play.specs.machine_run.Played.{StandsAt}
use Rattle.watch_play.specs.declared.stop.StoryStop.{StoryStop}
use Rattle.watch_play.specs.declared.stop.StoryStop.TheVariants as stops
use Rattle.watch_play.specs.declared.telling.Telling.{Telling}
use Rattle.program_call.specs.declared.outcome.Outcome.{Outcome}
use Rattle.program_call.specs.Outcomes.{closed_of}
use Rattle.fractal_watch.specs.Texts.{end_text, watch_status}

-- the status of a story that ended too early
abbrev pub stop_status : StoryStop → ℕ
stop_status stops.Memory = 5
stop_status stops.Sink = 7

-- the outcome holds this run, with a status and an end
pub record HoldsClosed (closed : Closed) (status : ℕ) (end : Option End) (o : Outcome) : Type 0 where
  pub status_is : o.status ≡ status
  pub run_is : closed_of o ≡ run_of_closed closed end
  pub steps_is : o.steps ≡ Some closed.steps

-- a book was closed so, and the outcome holds what it left, a run of the serial machine with this limit and this budget
pub record IsClosedAs (image : ImageValue) (commits budget : ℕ) (book : BookView) (status : ℕ) (end : Option End)
    (o : Outcome) : Type 0 where
  pub closed : Closed
  pub closes : Closes book closed
  pub run : IsRunOf image commits budget (run_of_closed closed end)
  pub holds : HoldsClosed closed status end o

-- what comes at the end of a run that was closed so
abbrev pub text_of_closed : Telling → ImageValue → Closed → End → List ℕ
text_of_closed telling image closed end =
    end_text telling image end closed.steps (length closed.journal) closed.output closed.memory

-- a book whose story was printed is closed, and its end is printed; or memory runs out for that, or the sink fails
pub data StoryFinishes (image : ImageValue) (commits budget : ℕ) (telling : Telling) (book : BookView)
    (before after : SinkState) (o : Outcome) : Type 0 where
  EndTold : (end : End) (c : IsClosedAs image commits budget book (watch_status end) (Some end) o)
      → StandsAt book.view end → SinkTakes before after (text_of_closed telling image c.closed end)
      → StoryFinishes image commits budget telling book before after o
  EndUntold : IsClosedAs image commits budget book 5 None o → after ≡ before
      → StoryFinishes image commits budget telling book before after o
  EndCut : (end : End) (c : IsClosedAs image commits budget book 7 None o) → StandsAt book.view end
      → TakesFront before after (text_of_closed telling image c.closed end) → Rose before.faults after.faults
      → StoryFinishes image commits budget telling book before after o
