use Rattle.std.proofs.Common.{◌≡◌, length, sym, subst, Some, None, Err}
use Rattle.guest_image.specs.ImageValue.{ImageValue}
use Rattle.sim_io.specs.Parts.{SinkTakes}
use Rattle.watch_play.specs.conflict_book.BookViews.{view_of}
use Rattle.watch_play.specs.Telling.{TellsText}
use Rattle.fractal_watch.specs.Closing.{HoldsClosed, text_of_closed}
use Rattle.fractal_watch.proofs.Ended.{end_stopped, end_told}
use Rattle.fractal_watch.proofs.closing.finish.Goals as goal

pub tell_end-requires : goal.tell_end-requires
tell_end-requires g c =
    let closed = c.close_book-closed.result in
    subst (λ (i : ImageValue). length closed.memory ≡ i.data_size) (sym c.requires.image)
    c.close_book-closed.ensures.sized

pub returns-in-Ok : goal.returns-in-Ok
returns-in-Ok g c =
    let left = c.close_book-closed in
    let closed = left.result in
    let end = c.stand-end.result in
    let before = g.K.Sink.state c.args.sink.now in
    let after = g.K.Sink.state c.tell_end.new.sink in
    let took = subst (λ i. SinkTakes before after (text_of_closed c.args.telling i closed end)) c.requires.image
    c.in-Ok.ensures.0 in
    let holds = subst (λ status. HoldsClosed closed status (Some end) c.hold.result) c.status_of.ensures
    c.hold.ensures in
    end_told g.N.Naming.image g.N.Naming.commits g.N.Naming.budget
    (view_of g.P.Placer.policy g.T.Tap.notes c.args.book) closed left.ensures.closes left.ensures.run
    c.args.telling end before after c.hold.result c.stand-end.ensures took holds

pub returns : goal.returns
returns g c =
    let left = c.close_book-closed in
    let closed = left.result in
    let end = c.stand-end.result in
    let stop = c.in-Err.stop in
    let before = g.K.Sink.state c.args.sink.now in
    let after = g.K.Sink.state c.tell_end.new.sink in
    let told = subst (λ i. TellsText (text_of_closed c.args.telling i closed end) before after (Err stop))
    c.requires.image c.in-Err.ensures in
    let holds = subst (λ status. HoldsClosed closed status None c.hold-in-Err.result) c.stop_status.ensures
    c.hold-in-Err.ensures in
    end_stopped g.N.Naming.image g.N.Naming.commits g.N.Naming.budget
    (view_of g.P.Placer.policy g.T.Tap.notes c.args.book) closed left.ensures.closes left.ensures.run
    c.args.telling end before after stop c.hold-in-Err.result c.stand-end.ensures told holds
