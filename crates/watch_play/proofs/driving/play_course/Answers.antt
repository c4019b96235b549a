use Rattle.std.proofs.Common.{All, refl, subst, sym}
use Rattle.watch_counts.specs.conflict_book.BookViews.{machine_view}
use Rattle.watch_counts.specs.spec_state.declared.settings.Settings.{Settings}
use Rattle.watch_counts.specs.step_script.Ranges.{ActIsInRange}
use Rattle.watch_counts.specs.Capped.{capped_counts}
use Rattle.watch_counts.specs.Counts.{counts_at}
use Rattle.watch_play.specs.declared.watch.SoTold.{SoTold}
use Rattle.watch_play.specs.Courses.{course_of, first_stage}
use Rattle.watch_play.specs.Made.{play_of}
use Rattle.watch_play.specs.Staged.{AreWithin, IsSmall, stage_of}
use Rattle.watch_play.specs.Stories.{commits_of}
use Rattle.watch_play.proofs.Stages.{first_small, first_within, within_of}
use Rattle.watch_play.proofs.Tellings.{course_begins, course_wants}
use Rattle.watch_play.proofs.driving.play_course.Goals as goal

pub play_from-requires-clause-small : goal.play_from-requires-clause-small
play_from-requires-clause-small g c =
    subst (IsSmall 0) (sym c.in-Ok.ensures.stage)
    (first_small c.args.course c.settings-settings.result.now c.args.script.items c.commit_count-commits.result
    c.settings-settings.ensures.valid c.requires.few)

pub play_from-requires-clause-inside : goal.play_from-requires-clause-inside
play_from-requires-clause-inside g c =
    let settings = c.settings-settings.result.now in
    let value = c.settings-settings.ensures.value in
    let script = c.args.script.items in
    let within = subst (λ (s : Settings). All (ActIsInRange s.tiles s.cores) script) (sym value) c.requires.within in
    let first = first_within (course_of c.args.course settings script) settings c.commit_count-commits.result
    (within_of c.args.course settings script within) in
    subst (λ (s : Settings). AreWithin s.tiles s.cores (stage_of c.in-Ok.stage)) value
    (subst (AreWithin settings.tiles settings.cores) (sym c.in-Ok.ensures.stage) first)

pub returns-in_default : goal.returns-in_default
returns-in_default g c =
    let first = play_of g.P.Placer.policy g.T.Tap.notes c.args.watch.now.play in
    let course = course_of c.args.course first.book.view.settings c.args.script.items in
    let began = g.K.Sink.state c.args.sink.now in
    let told : SoTold = record { moments = 0; counts = capped_counts (counts_at first.book.view) } in
    course_wants g.row.N.Denot g.N.Naming.image c.args.watch.now.telling course first began 0
    (first_stage course (commits_of first)) told first began
    (course_begins g.row.N.Denot g.N.Naming.image c.args.watch.now.telling course first began told refl refl)
