use Rattle.conflict_book.specs.BookViews.{view_of}
use Rattle.conflict_book.proofs.FrozenRun.{frozen_fits, frozen_leaves}
use Rattle.conflict_book.proofs.book.Book.freeze.Goals as goal

pub returns-in-Ok-clause-frozen : goal.returns-in-Ok-clause-frozen
returns-in-Ok-clause-frozen g c =
    frozen_leaves g.N.Naming.image (view_of g.P.Placer.policy g.T.Tap.notes c.args.self) c.close.result c.in-Ok.pending c.is_sound.ensures c.close.ensures.closes
    c.in-Ok.ensures.held c.in-Ok.ensures.sorted

pub returns-in-Ok-clause-few : goal.returns-in-Ok-clause-few
returns-in-Ok-clause-few g c =
    frozen_fits g.N.Naming.image (view_of g.P.Placer.policy g.T.Tap.notes c.args.self) c.close.result c.is_sound.ensures c.close.ensures.closes
