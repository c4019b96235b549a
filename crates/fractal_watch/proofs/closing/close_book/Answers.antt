use Rattle.std.proofs.Common.{None}
use Rattle.watch_play.specs.conflict_book.BookViews.{view_of}
use Rattle.watch_play.proofs.Below.machine_run.Proved.{left_is_run_of, left_is_sized}
use Rattle.fractal_watch.proofs.closing.close_book.Goals as goal

pub returns-clause-run : goal.returns-clause-run
returns-clause-run g c =
    let last = view_of g.P.Placer.policy g.T.Tap.notes c.args.book in
    let law = c.is_sound.ensures in
    λ end stands. left_is_run_of g.N.Naming.image g.N.Naming.commits g.N.Naming.budget last c.close.result end
    c.requires.fits law.sound c.close.ensures.closes stands law.commits law.budget

pub returns-clause-sized : goal.returns-clause-sized
returns-clause-sized g c =
    left_is_sized g.N.Naming.image c.close.result None g.N.Naming.commits g.N.Naming.budget c.requires.fits
    (returns-clause-run g c None tt)
