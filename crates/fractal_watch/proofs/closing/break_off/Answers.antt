use Rattle.std.proofs.Common.{subst, None}
use Rattle.watch_play.specs.conflict_book.BookViews.{view_of}
use Rattle.fractal_watch.specs.Closing.{HoldsClosed, stop_status}
use Rattle.fractal_watch.proofs.Ended.{closed_so}
use Rattle.fractal_watch.proofs.closing.break_off.Goals as goal

pub returns : goal.returns
returns g c =
    let left = c.close_book in
    let o = c.hold.result in
    closed_so g.N.Naming.image g.N.Naming.commits g.N.Naming.budget
    (view_of g.P.Placer.policy g.T.Tap.notes c.args.book) left.result left.ensures.closes left.ensures.run
    (stop_status c.args.stop) None o tt
    (subst (λ status. HoldsClosed left.result status None o) c.stop_status.ensures c.hold.ensures)
