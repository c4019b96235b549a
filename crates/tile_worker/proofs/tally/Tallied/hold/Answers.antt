use Rattle.conflict_book.specs.BookViews.{view_of}
use Rattle.tile_worker.proofs.Begins.{bytes_held, entries_held}
use Rattle.tile_worker.proofs.tally.Tallied.hold.Goals as goal

pub returns-clause-entries : goal.returns-clause-entries
returns-clause-entries g c = λ before front.
    entries_held g.row.N.Denot (view_of g.P.Placer.policy g.T.Tap.notes c.args.self.now.book)
    (view_of g.P.Placer.policy g.T.Tap.notes c.serve-found.new.book) before c.serve-found.ensures.once front

pub returns-clause-bytes : goal.returns-clause-bytes
returns-clause-bytes g c = λ before front.
    bytes_held g.row.N.Denot (view_of g.P.Placer.policy g.T.Tap.notes c.args.self.now.book)
    (view_of g.P.Placer.policy g.T.Tap.notes c.serve-found.new.book) before c.serve-found.ensures.once front
