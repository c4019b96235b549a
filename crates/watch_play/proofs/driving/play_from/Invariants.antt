use Rattle.std.proofs.Common.{◌≡◌, ◌≤◌, ℕ, List, length}
use Rattle.watch_counts.specs.conflict_book.BookViews.{machine_view}
use Rattle.watch_counts.specs.spec_state.declared.settings.Settings.{Settings}
use Rattle.watch_counts.specs.step_script.declared.act.Act.{Act}
use Rattle.watch_play.specs.Courses.{course_of, first_stage}
use Rattle.watch_play.specs.Made.{play_of}
use Rattle.watch_play.specs.Staged.{AreWithin, IsSmall, stage_of}
use Rattle.watch_play.proofs.Tellings.{CourseGoes}
use Rattle.watch_play.proofs.driving.play_from.Given as goal

abbrev pub invariant-loop-number : goal.invariant-loop-number
invariant-loop-number g l = record {
  goes : (settings : Settings) (script : List Act)
      → stage_of l.fn.stage ≡ first_stage (course_of l.fn.stage.course settings script)
      (length (machine_view l.fn.play.book).history)
      → CourseGoes g.row.N.Denot g.N.Naming.image l.telling (course_of l.fn.stage.course settings script)
      (play_of g.P.Placer.policy g.T.Tap.notes l.fn.play) (g.K.Sink.state l.fn.sink) l.number (stage_of l.stage)
      l.printer.told (play_of g.P.Placer.policy g.T.Tap.notes l.play) (g.K.Sink.state l.sink);
  course : l.stage.course ≡ l.fn.stage.course;
  settings : (machine_view l.play.book).settings ≡ (machine_view l.fn.play.book).settings;
  moments : l.printer.told.moments ≤ l.number;
  small : IsSmall l.number (stage_of l.stage);
  inside : AreWithin (machine_view l.fn.play.book).settings.tiles (machine_view l.fn.play.book).settings.cores
      (stage_of l.stage);
}
