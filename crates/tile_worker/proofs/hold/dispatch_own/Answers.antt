use Rattle.conflict_book.specs.BookViews.{view_of}
use Rattle.tile_worker.proofs.Holding.{still_over}
use Rattle.tile_worker.proofs.hold.dispatch_own.Goals as goal

pub returns-in-Over : goal.returns-in-Over
returns-in-Over g c =
    still_over g.row.N.Denot (view_of g.P.Placer.policy g.T.Tap.notes c.args.book.now)
    (view_of g.P.Placer.policy g.T.Tap.notes c.loop-tile.book)
    (view_of g.P.Placer.policy g.T.Tap.notes c.dispatch_in.new.book) c.dispatch_in.result c.dispatch_in.ensures c.in-Over.is
    c.loop-tile.invariant
