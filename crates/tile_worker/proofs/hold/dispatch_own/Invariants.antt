use Rattle.std.proofs.Common.{◌≡◌}
use Rattle.conflict_book.specs.BookViews.{view_of}
use Rattle.tile_worker.proofs.hold.dispatch_own.Given as goal

abbrev pub invariant-loop-tile : goal.invariant-loop-tile
invariant-loop-tile g l =
    view_of g.P.Placer.policy g.T.Tap.notes l.book ≡ view_of g.P.Placer.policy g.T.Tap.notes l.fn.book
