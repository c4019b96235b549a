use Rattle.progress_cell.specs.Readings.{last_of}
use Rattle.conflict_book.specs.BookViews.{view_of}
use Rattle.tile_worker.proofs.Told.{counts_held, readings_held}
use Rattle.tile_worker.proofs.followed.Followed.hold.Goals as goal

pub tell-requires-clause-rises : goal.tell-requires-clause-rises
tell-requires-clause-rises g c =
    counts_held g.row.N.Denot (view_of g.P.Placer.policy g.T.Tap.notes c.args.self.now.tallied.book)
    (view_of g.P.Placer.policy g.T.Tap.notes c.hold-found.new.self.book) (last_of c.args.self.now.writer.told)
    c.hold-found.ensures.once c.args.self.now.last

pub tell-requires-clause-readings : goal.tell-requires-clause-readings
tell-requires-clause-readings g c =
    readings_held g.row.N.Denot g.N.Naming.image g.N.Naming.budget
    (view_of g.P.Placer.policy g.T.Tap.notes c.args.self.now.tallied.book)
    (view_of g.P.Placer.policy g.T.Tap.notes c.hold-found.new.self.book) c.args.self.now.writer.told c.hold-found.ensures.once
    c.args.self.now.readings

pub invariant_of-self-else-not-is_told-clause-readings : goal.invariant_of-self-else-not-is_told-clause-readings
invariant_of-self-else-not-is_told-clause-readings g c =
    readings_held g.row.N.Denot g.N.Naming.image g.N.Naming.budget
    (view_of g.P.Placer.policy g.T.Tap.notes c.args.self.now.tallied.book)
    (view_of g.P.Placer.policy g.T.Tap.notes c.hold-found.new.self.book) c.args.self.now.writer.told c.hold-found.ensures.once
    c.args.self.now.readings
