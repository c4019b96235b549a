use Rattle.std.proofs.Common.{◌≡◌, sym, ap, ◌∙◌, subst, rules, Err}
use Rattle.watch_play.specs.conflict_book.BookViews.{view_of}
use Rattle.watch_play.specs.Courses.{course_word}
use Rattle.watch_play.specs.Telling.{Tells}
use Rattle.fractal_watch.proofs.Coursed.{opening_stopped, same_word}
use Rattle.fractal_watch.proofs.watching.tell_course.Goals as goal

pub returns-in_err-tell_opening : goal.returns-in_err-tell_opening
returns-in_err-tell_opening g c = λ plan image_is settings_is telling_is course_is.
    let opened = c.tell_opening in
    let opening = view_of g.P.Placer.policy g.T.Tap.notes c.args.watch.now.play.book in
    let book = view_of g.P.Placer.policy g.T.Tap.notes opened.new.watch.play.book in
    let before = g.K.Sink.state c.args.sink.now in
    let after = g.K.Sink.state opened.new.sink in
    let word : course_word plan.course ≡ c.args.course =
    ap course_word course_is ∙ same_word c.args.course plan.settings c.args.script.items in
    let stop = c.in_err-tell_opening.field-0.0 in
    let is : c.from_residual.result ≡ Err stop = search rules in
    let same : book ≡ opening = search rules in
    subst (Tells g.row.N.Denot plan opening book before after) (sym is)
    (opening_stopped g.row.N.Denot plan opening book before after stop same
    (c.in_err-tell_opening.ensures.tells plan image_is word settings_is telling_is))
