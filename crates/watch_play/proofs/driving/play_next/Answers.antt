use Rattle.std.proofs.Common.{[], rules, ◌≡◌, ◌+◌, Err, add-one, ap, refl, subst, sym, ◌∙◌}
use Rattle.watch_counts.specs.conflict_book.BookViews.{machine_view}
use Rattle.watch_play.specs.Courses.{course_of}
use Rattle.watch_play.specs.Made.{play_of}
use Rattle.watch_play.specs.Staged.{stage_of}
use Rattle.watch_play.specs.Counted.{line_behind}
use Rattle.watch_play.specs.Telling.{ComesOn, GoesOn, HasCome, TellsText, plan_with}
use Rattle.watch_play.proofs.Behind.{counts_before, tells_on}
use Rattle.watch_play.proofs.Stages.{next_small, next_within, on_ok}
use Rattle.watch_play.proofs.driving.play_next.Goals as goal

pub returns-in_err-play_asked-clause-goes_on : goal.returns-in_err-play_asked-clause-goes_on
returns-in_err-play_asked-clause-goes_on g c settings script own opening start so_far =
    let course = course_of c.args.stage.now.course settings script in
    let stage = stage_of c.args.stage.now in
    let asked = c.play_asked in
    let new = play_of g.P.Placer.policy g.T.Tap.notes asked.new.play in
    let plan = plan_with g.N.Naming.image c.args.telling course own in
    let is : c.from_residual.result ≡ Err c.in_err-play_asked.field-0.0 = search rules in
    subst (GoesOn g.row.N.Denot plan opening (c.args.number + 1) stage asked.new.printer.told new start
    (g.K.Sink.state asked.new.sink)) (sym is)
    (subst (ComesOn g.row.N.Denot plan opening c.args.number stage asked.new.printer.told new start
    (g.K.Sink.state asked.new.sink)) c.in_err-play_asked.was
    (asked.ensures.comes settings script own opening start so_far))

pub returns-clause-goes_on : goal.returns-clause-goes_on
returns-clause-goes_on g c settings script own opening start so_far =
    let course = course_of c.args.stage.now.course settings script in
    let at = stage_of c.args.stage.now in
    let next = stage_of c.after.new.self in
    let asked = c.play_asked in
    let new = play_of g.P.Placer.policy g.T.Tap.notes asked.new.play in
    let plan = plan_with g.N.Naming.image c.args.telling course own in
    let now = g.K.Sink.state asked.new.sink in
    let come : HasCome g.row.N.Denot plan opening c.args.number at asked.new.printer.told new start now =
    subst (ComesOn g.row.N.Denot plan opening c.args.number at asked.new.printer.told new start now)
    c.in_ok-play_asked.was (asked.ensures.comes settings script own opening start so_far) in
    let after = c.after.ensures.next settings script in
    let end = c.end_act in
    let before =
    counts_before g.row.N.Denot plan opening start c.args.number at next asked.new.printer.told new now come
    after in
    subst (λ n. GoesOn g.row.N.Denot plan opening n next end.new.printer.told new start (g.K.Sink.state end.new.sink)
    end.result) (sym (add-one c.args.number))
    (tells_on g.row.N.Denot plan opening start c.args.number at next asked.new.printer.told new now come after
    end.new.printer.told (g.K.Sink.state end.new.sink) end.result end.ensures.moments
    (λ are. end.ensures.counts at before refl are (come.counted are))
    (subst (λ text. TellsText text now (g.K.Sink.state end.new.sink) end.result)
    (λ i. line_behind c.args.telling (course_of (c.after.ensures.course i) settings script) (add-one c.args.number i) at
    next before (c.state.ensures.view i)) (end.ensures.tells settings script at before refl come.counted)))

pub returns-clause-small : goal.returns-clause-small
returns-clause-small g c =
    let course = course_of c.args.stage.now.course (machine_view c.args.play.now.book).settings [] in
    let small = next_small course (stage_of c.args.stage.now) (machine_view c.play_asked.new.play.book)
    (stage_of c.after.new.self) (c.after.ensures.next (machine_view c.args.play.now.book).settings [])
    c.args.number c.requires.small in
    on_ok c.end_act.result small

pub returns-clause-inside : goal.returns-clause-inside
returns-clause-inside g c =
    let settings = (machine_view c.args.play.now.book).settings in
    let course = course_of c.args.stage.now.course settings [] in
    let inside = next_within course (stage_of c.args.stage.now) (machine_view c.play_asked.new.play.book)
    (stage_of c.after.new.self) (c.after.ensures.next settings []) settings.tiles settings.cores c.requires.inside in
    on_ok c.end_act.result inside
