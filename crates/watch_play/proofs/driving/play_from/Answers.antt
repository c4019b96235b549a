use Rattle.std.proofs.Common.{[], rules, ◌≡◌, ◌+◌, Err, refl, sym, subst, ◌∙◌}
use Rattle.std.specs.Prelude.{if◌then◌else◌}
use Rattle.watch_counts.specs.conflict_book.BookViews.{machine_view}
use Rattle.watch_counts.specs.spec_state.declared.settings.Settings.{Settings}
use Rattle.watch_counts.specs.step_script.Ranges.{ActIsInRange}
use Rattle.watch_play.specs.Courses.{EndsAt, course_of}
use Rattle.watch_play.specs.Made.{play_of}
use Rattle.watch_play.specs.Staged.{AreWithin, stage_of}
use Rattle.watch_counts.specs.Texts.{counts_line}
use Rattle.watch_play.specs.Telling.{ActGoesOn, TellsText}
use Rattle.watch_play.specs.Texts.{has_counts}
use Rattle.watch_play.proofs.Stages.{act_within}
use Rattle.watch_play.proofs.Tellings.{CourseGoes, course_begins, course_ends, course_goes_on, course_stops}
use Rattle.watch_play.proofs.Tellings.{course_wants}
use Rattle.watch_play.proofs.driving.play_from.Goals as goal

pub loop-number-init : goal.loop-number-init
loop-number-init g c = record {
  goes = λ settings script is.
      subst (λ s. CourseGoes g.row.N.Denot g.N.Naming.image c.args.telling
      (course_of c.args.stage.now.course settings script)
      (play_of g.P.Placer.policy g.T.Tap.notes c.args.play.now) (g.K.Sink.state c.args.sink.now) 0 s
      c.args.printer.now.told (play_of g.P.Placer.policy g.T.Tap.notes c.args.play.now)
      (g.K.Sink.state c.args.sink.now)) (sym is)
      (course_begins g.row.N.Denot g.N.Naming.image c.args.telling (course_of c.args.stage.now.course settings script)
      (play_of g.P.Placer.policy g.T.Tap.notes c.args.play.now) (g.K.Sink.state c.args.sink.now)
      c.args.printer.now.told c.requires.moments c.requires.counts);
  course = refl;
  settings = refl;
  moments = search rules;
  small = c.requires.small;
  inside = c.requires.inside;
}

pub play_next-requires-clause-within : goal.play_next-requires-clause-within
play_next-requires-clause-within g c =
    let settings = (machine_view c.args.play.now.book).settings in
    let inv = c.loop-number.invariant in
    let next = c.in-Some.ensures.some settings [] in
    subst (λ (s : Settings). ActIsInRange s.tiles s.cores c.in-Some.act) (sym inv.settings)
    (act_within settings.tiles settings.cores (stage_of c.loop-number.stage) c.in-Some.act inv.inside next.0)

pub play_next-requires-clause-inside : goal.play_next-requires-clause-inside
play_next-requires-clause-inside g c =
    let inv = c.loop-number.invariant in
    subst (λ (s : Settings). AreWithin s.tiles s.cores (stage_of c.loop-number.stage)) (sym inv.settings) inv.inside

pub play_next-requires-clause-next : goal.play_next-requires-clause-next
play_next-requires-clause-next g c settings script = c.in-Some.ensures.some settings script

pub returns-in-None : goal.returns-in-None
returns-in-None g c settings script is =
    let inv = c.loop-number.invariant in
    let play = play_of g.P.Placer.policy g.T.Tap.notes c.loop-number.play in
    let stage = stage_of c.loop-number.stage in
    let last = c.tell_last_counts in
    course_ends g.row.N.Denot g.N.Naming.image c.args.telling (course_of c.args.stage.now.course settings script)
    (play_of g.P.Placer.policy g.T.Tap.notes c.args.play.now) (g.K.Sink.state c.args.sink.now) c.loop-number.number
    stage c.loop-number.printer.told play (g.K.Sink.state c.loop-number.sink) (inv.goes settings script is)
    (subst (λ word. EndsAt (course_of word settings script) stage play.book.view) inv.course
    (c.in-None.ensures.none settings script (search rules))) (g.K.Sink.state last.new.sink) last.result (λ counts are.
    subst (λ view. TellsText (if has_counts c.args.telling then counts_line counts view else [])
    (g.K.Sink.state c.loop-number.sink) (g.K.Sink.state last.new.sink) last.result) c.state.ensures.view
    (last.ensures counts are))

pub returns-in_err-play_next-in-Some : goal.returns-in_err-play_next-in-Some
returns-in_err-play_next-in-Some g c settings script is =
    let inv = c.loop-number.invariant in
    let course = course_of c.args.stage.now.course settings script in
    let old = play_of g.P.Placer.policy g.T.Tap.notes c.loop-number.play in
    let next = c.play_next in
    let new = play_of g.P.Placer.policy g.T.Tap.notes next.new.play in
    let stage = stage_of c.loop-number.stage in
    let now = g.K.Sink.state c.loop-number.sink in
    let after = g.K.Sink.state next.new.sink in
    let told : c.from_residual.result ≡ Err c.in_err-play_next-in-Some.field-0.0 = search rules in
    course_stops g.row.N.Denot g.N.Naming.image c.args.telling course
    (play_of g.P.Placer.policy g.T.Tap.notes c.args.play.now) (g.K.Sink.state c.args.sink.now) c.loop-number.number
    stage c.loop-number.printer.told old now (inv.goes settings script is) (stage_of next.new.stage)
    next.new.printer.told new after next.result
    (subst (λ word. ActGoesOn g.row.N.Denot g.N.Naming.image c.args.telling (course_of word settings script)
    c.loop-number.number stage (stage_of next.new.stage) c.loop-number.printer.told next.new.printer.told old new now
    after next.result) inv.course (next.ensures.goes_on settings script))
    c.from_residual.result c.in_err-play_next-in-Some.field-0.0 c.in_err-play_next-in-Some.was told

pub loop-number-preserved : goal.loop-number-preserved
loop-number-preserved g c =
    let inv = c.loop-number.invariant in
    let old = play_of g.P.Placer.policy g.T.Tap.notes c.loop-number.play in
    let next = c.play_next in
    let new = play_of g.P.Placer.policy g.T.Tap.notes next.new.play in
    let stage = stage_of c.loop-number.stage in
    let now = g.K.Sink.state c.loop-number.sink in
    let after = g.K.Sink.state next.new.sink in
    record {
      goes = λ settings script is.
          course_goes_on g.row.N.Denot g.N.Naming.image c.args.telling
          (course_of c.args.stage.now.course settings script)
          (play_of g.P.Placer.policy g.T.Tap.notes c.args.play.now) (g.K.Sink.state c.args.sink.now)
          c.loop-number.number stage c.loop-number.printer.told old now (inv.goes settings script is)
          (stage_of next.new.stage) next.new.printer.told new after next.result
          (subst (λ word. ActGoesOn g.row.N.Denot g.N.Naming.image c.args.telling (course_of word settings script)
          c.loop-number.number stage (stage_of next.new.stage) c.loop-number.printer.told next.new.printer.told old new
          now after next.result) inv.course (next.ensures.goes_on settings script)) (search rules);
      course = next.ensures.course ∙ inv.course;
      settings = next.ensures.settings ∙ inv.settings;
      moments = c.in_ok-play_next-in-Some.ensures.moments;
      small = c.in_ok-play_next-in-Some.ensures.small;
      inside =
          subst (λ (s : Settings). AreWithin s.tiles s.cores (stage_of next.new.stage)) inv.settings
          c.in_ok-play_next-in-Some.ensures.inside;
    }

pub returns : goal.returns
returns g c settings script is =
    course_wants g.row.N.Denot g.N.Naming.image c.args.telling (course_of c.args.stage.now.course settings script)
    (play_of g.P.Placer.policy g.T.Tap.notes c.args.play.now) (g.K.Sink.state c.args.sink.now) c.loop-number.number
    (stage_of c.loop-number.stage) c.loop-number.printer.told
    (play_of g.P.Placer.policy g.T.Tap.notes c.loop-number.play) (g.K.Sink.state c.loop-number.sink)
    (c.loop-number.invariant.goes settings script is)
