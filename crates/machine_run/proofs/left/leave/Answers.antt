use Rattle.outcome_law.specs.conflict_book.BookViews.{view_of}
use Rattle.machine_run.proofs.Leaving.{left_of}
use Rattle.machine_run.proofs.left.leave.Goals as goal

pub returns-clause-left : goal.returns-clause-left
returns-clause-left g c =
    let last = view_of g.P.Placer.policy g.T.Tap.notes c.args.book in
    let law = c.is_sound.ensures in
    left_of g.N.Naming.image g.N.Naming.commits g.N.Naming.budget last c.close.result c.args.end c.requires.fits
    law.sound c.close.ensures.closes c.requires.stands law.commits law.budget
