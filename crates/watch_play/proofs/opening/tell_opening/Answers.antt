use Rattle.std.proofs.Common.{rules, append-nil, subst}
use Rattle.watch_counts.specs.conflict_book.BookViews.{machine_view, view_of}
use Rattle.watch_counts.specs.watch_text.Opening.{head_line}
use Rattle.watch_play.specs.Telling.{TellsText}
use Rattle.watch_play.proofs.Openings.{head_told, opening_told, opening_untold}
use Rattle.watch_play.proofs.opening.tell_opening.Goals as goal

pub returns-then-has_lines-clause-tells : goal.returns-then-has_lines-clause-tells
returns-then-has_lines-clause-tells g c = λ plan image_is course_is settings_is telling_is.
    let watch = c.args.watch.now in
    opening_told plan (view_of g.P.Placer.policy g.T.Tap.notes watch.play.book) c.args.course
    (machine_view watch.play.book).settings c.args.image.now watch.telling image_is course_is
    settings_is telling_is (g.K.Sink.state c.args.sink.now) (g.K.Sink.state c.tell_lines.new.sink) c.tell_lines.result
    (search rules) (search rules)

pub returns-then-has_counts-clause-tells : goal.returns-then-has_counts-clause-tells
returns-then-has_counts-clause-tells g c = λ plan image_is course_is settings_is telling_is.
    let watch = c.args.watch.now in
    let settings = (machine_view watch.play.book).settings in
    head_told plan (view_of g.P.Placer.policy g.T.Tap.notes watch.play.book) c.args.course settings c.args.image.now
    watch.telling image_is course_is settings_is telling_is (g.K.Sink.state c.args.sink.now)
    (g.K.Sink.state c.tell_lines-then-has_counts.new.sink) c.tell_lines-then-has_counts.result
    (search rules) (search rules) (search rules)

pub returns-else-has_counts-clause-tells : goal.returns-else-has_counts-clause-tells
returns-else-has_counts-clause-tells g c = λ plan image_is course_is settings_is telling_is.
    let watch = c.args.watch.now in
    opening_untold plan (view_of g.P.Placer.policy g.T.Tap.notes watch.play.book) c.args.course
    (machine_view watch.play.book).settings c.args.image.now watch.telling image_is course_is
    settings_is telling_is (g.K.Sink.state c.args.sink.now) (search rules) (search rules)
