use Rattle.event_step.specs.event_def.Advancing.{AdvancesBy}
use Rattle.conflict_book.specs.BookViews.{view_of}
use Rattle.conflict_book.proofs.book.Book.run_least.Given as goal

abbrev pub invariant-loop-made : goal.invariant-loop-made
invariant-loop-made g l =
    AdvancesBy g.row.N.Denot g.N.Naming.image l.made (view_of g.P.Placer.policy g.T.Tap.notes l.fn.self) (view_of g.P.Placer.policy g.T.Tap.notes l.self)
