use Rattle.std.proofs.Common.{refl}
use Rattle.conflict_book.specs.BookViews.{view_of}
use Rattle.conflict_book.proofs.LeftRun.{closed_is_run}
use Rattle.conflict_book.proofs.book.Book.close.Goals as goal

pub returns-clause-closes : goal.returns-clause-closes
returns-clause-closes g c = c.close_state.ensures.closes (view_of g.P.Placer.policy g.T.Tap.notes c.args.self) refl refl

pub returns-clause-run : goal.returns-clause-run
returns-clause-run g c =
    let book = view_of g.P.Placer.policy g.T.Tap.notes c.args.self in
    closed_is_run g.N.Naming.image book c.close_state.result c.close_state.ensures.sound (c.close_state.ensures.closes book refl refl)
