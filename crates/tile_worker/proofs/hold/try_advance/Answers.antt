use Rattle.std.proofs.Common.{refl}
use Rattle.conflict_book.specs.BookViews.{view_of}
use Rattle.tile_worker.proofs.Holding.{advance_moved}
use Rattle.tile_worker.proofs.hold.try_advance.Goals as goal

pub returns-in-Moved : goal.returns-in-Moved
returns-in-Moved g c =
    let old = view_of g.P.Placer.policy g.T.Tap.notes c.args.book.now in
    let new = view_of g.P.Placer.policy g.T.Tap.notes c.advance.new.self in
    advance_moved g.row.N.Denot g.N.Naming.image old new new c.advance.result c.advance.ensures.answers c.in-Moved.is refl
