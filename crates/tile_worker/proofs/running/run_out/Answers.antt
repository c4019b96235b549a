use Rattle.std.proofs.Common.{arith, rules, ◌≤◌}
use Rattle.conflict_book.specs.BookViews.{view_of}
use Rattle.tile_worker.proofs.Growing.{runs_grow}
use Rattle.tile_worker.proofs.Rising.{runs_later}
use Rattle.tile_worker.proofs.running.run_out.Goals as goal

pub overflow_sub-result : goal.overflow_sub-result
overflow_sub-result g c =
    let old = view_of g.P.Placer.policy g.T.Tap.notes c.args.book.now in
    let new = view_of g.P.Placer.policy g.T.Tap.notes c.run_least-halt.new.self in
    let before = c.steps-before.ensures in
    let after = c.steps.ensures in
    let later : old.steps ≤ new.steps =
    runs_later g.row.N.Denot g.N.Naming.image old new c.run_least-halt.result c.run_least-halt.ensures (search rules) in
    omega (arith, before, after, later)

pub returns-clause-rise : goal.returns-clause-rise
returns-clause-rise g c =
    let up = overflow_sub-result g c in
    let before = c.steps-before.ensures in
    let after = c.steps.ensures in
    omega (arith, up, before, after)

pub returns-clause-grows : goal.returns-clause-grows
returns-clause-grows g c =
    runs_grow g.row.N.Denot g.N.Naming.image (view_of g.P.Placer.policy g.T.Tap.notes c.args.book.now)
    (view_of g.P.Placer.policy g.T.Tap.notes c.run_least-halt.new.self) c.run_least-halt.result c.run_least-halt.ensures
