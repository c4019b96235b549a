use Rattle.std.proofs.Common.{rules, ◌≡◌}
use Rattle.watch_counts.specs.conflict_book.BookViews.{machine_view}
use Rattle.watch_play.specs.Courses.{course_of}
use Rattle.watch_play.specs.Made.{play_of}
use Rattle.watch_play.specs.Staged.{stage_of}
use Rattle.watch_play.specs.Telling.{plan_with}
use Rattle.watch_play.proofs.Chosen.{refused}
use Rattle.watch_play.proofs.Tellings.{comes_on, passes}
use Rattle.watch_play.proofs.Waiting.{stage_there}
use Rattle.watch_play.proofs.driving.play_asked.Goals as goal

pub returns-then-asks-clause-comes : goal.returns-then-asks-clause-comes
returns-then-asks-clause-comes g c settings script own opening start so_far =
    let course = course_of c.args.stage.now.course settings script in
    let stage = stage_of c.args.stage.now in
    let old = play_of g.P.Placer.policy g.T.Tap.notes c.args.play.now in
    let tell = c.tell_act-told in
    let new = play_of g.P.Placer.policy g.T.Tap.notes tell.new.play in
    let next = stage_there g.N.Naming.image course stage (machine_view tell.new.play.book) c.is_sound.ensures.sound in
    comes_on g.row.N.Denot (plan_with g.N.Naming.image c.args.telling course own) opening start c.args.number stage
    c.args.printer.now.told old (g.K.Sink.state c.args.sink.now) so_far c.args.act (c.requires.next settings script)
    ((c.asks.ensures settings script).0 c.if-asks.true) new next.0 next.1 tell.new.printer.told
    (g.K.Sink.state tell.new.sink) tell.result tell.ensures.tells tell.ensures.count

pub returns-else-asks-clause-comes : goal.returns-else-asks-clause-comes
returns-else-asks-clause-comes g c settings script own opening start so_far =
    let course = course_of c.args.stage.now.course settings script in
    passes g.row.N.Denot (plan_with g.N.Naming.image c.args.telling course own) opening start c.args.number
    (stage_of c.args.stage.now) c.args.printer.now.told (play_of g.P.Placer.policy g.T.Tap.notes c.args.play.now)
    (g.K.Sink.state c.args.sink.now) so_far c.args.act (c.requires.next settings script)
    (refused c.asks.result (c.asks.ensures settings script) c.if-asks.false) _ (search rules)
    c.pass_act.ensures
