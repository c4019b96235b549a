-- A book that was closed, and what comes at its end.
use Rattle.std.proofs.Common.{ℕ, None, Some, Err}
use Rattle.std.specs.Prelude.{IfSome}
use Rattle.std.specs.declared.option.Option.{Option}
use Rattle.guest_image.specs.ImageValue.{ImageValue}
use Rattle.run_journal.specs.declared.closed.Closed.{Closed}
use Rattle.run_journal.specs.declared.end.End.{End}
use Rattle.watch_play.specs.serial_machine.WholeRun.{IsRunOf}
use Rattle.sim_io.specs.Parts.{SinkTakes}
use Rattle.sim_io.specs.Streams.{SinkState}
use Rattle.watch_play.specs.event_def.Book.{BookView}
use Rattle.watch_play.specs.event_def.Closing.{Closes}
use Rattle.watch_play.specs.machine_run.Least.{run_of_closed}
use Rattle.watch_play.specs.machine_run.Played.{StandsAt}
use Rattle.watch_play.specs.declared.stop.StoryStop.{StoryStop}
use Rattle.watch_play.specs.declared.stop.StoryStop.TheVariants as stops
use Rattle.watch_play.specs.declared.telling.Telling.{Telling}
use Rattle.watch_play.specs.Telling.{TellsText}
use Rattle.program_call.specs.declared.outcome.Outcome.{Outcome}
use Rattle.fractal_watch.specs.Closing.{EndCut, EndTold, EndUntold, StoryFinishes, HoldsClosed, IsClosedAs, stop_status}
use Rattle.fractal_watch.specs.Closing.{text_of_closed}
use Rattle.fractal_watch.specs.Texts.{watch_status}

module _ (image : ImageValue) (commits budget : ℕ) (book : BookView) (closed : Closed) (closes : Closes book closed)
    (run : (end : Option End) → IfSome end (StandsAt book.view)
    → IsRunOf image commits budget (run_of_closed closed end)) where
  -- an outcome that holds what was closed
  abbrev pub closed_so : (status : ℕ) (end : Option End) (o : Outcome) → IfSome end (StandsAt book.view)
      → HoldsClosed closed status end o → IsClosedAs image commits budget book status end o
  closed_so status end o stands holds = record { closed = closed; closes = closes; run = run end stands; holds = holds }

  -- and what comes at its end was told
  pub end_told : (telling : Telling) (end : End) (before after : SinkState) (o : Outcome) → StandsAt book.view end
      → SinkTakes before after (text_of_closed telling image closed end)
      → HoldsClosed closed (watch_status end) (Some end) o
      → StoryFinishes image commits budget telling book before after o
  end_told telling end before after o stands took holds =
      EndTold end (closed_so (watch_status end) (Some end) o stands holds) stands took

  -- or it wasn't
  pub end_stopped : (telling : Telling) (end : End) (before after : SinkState) (stop : StoryStop) (o : Outcome)
      → StandsAt book.view end → TellsText (text_of_closed telling image closed end) before after (Err stop)
      → HoldsClosed closed (stop_status stop) None o → StoryFinishes image commits budget telling book before after o
  end_stopped telling end before after stops.Memory o stands told holds = EndUntold (closed_so 5 None o tt holds) told
  end_stopped telling end before after stops.Sink o stands told holds =
      EndCut end (closed_so 7 None o tt holds) stands told.0 told.1
