use Rattle.std.proofs.Common.{arith}
use Rattle.fractal_vt.specs.Keys.{key_cmp}
use Rattle.spec_state.proofs.Picks.{picked_live}
use Rattle.spec_state.proofs.Conflicting.{no_conflict_below, next_tile, conflict_some, conflict_none}
use Rattle.spec_state.proofs.state.State.conflict.Goals as goal

pub earlier-best-requires-clause-one : goal.earlier-best-requires-clause-one
earlier-best-requires-clause-one g c =
    picked_live key_cmp c.args.self.now.view _ (λ k t is. is.2.0.there) c.loop-tile.best c.loop-tile.invariant

pub earlier-best-requires-clause-two : goal.earlier-best-requires-clause-two
earlier-best-requires-clause-two g c =
    picked_live key_cmp c.args.self.now.view _ (λ k t is. is.0.there) c.conflict_in.result c.conflict_in.ensures

pub loop-tile-init : goal.loop-tile-init
loop-tile-init g c = no_conflict_below c.args.self.now.view c.task-found.result.now c.args.line c.args.write

pub loop-tile-preserved : goal.loop-tile-preserved
loop-tile-preserved g c =
    next_tile c.args.self.now.view c.task-found.result.now c.args.line c.args.write c.loop-tile.tile c.loop-tile.best
    c.conflict_in.result c.earlier-best.result
    c.loop-tile.invariant c.conflict_in.ensures c.earlier-best.ensures

pub returns-clause-some : goal.returns-clause-some
returns-clause-some g c =
    conflict_some c.args.self.now.view c.task-found.result.now c.args.line c.args.write g.N.Naming.image.data_size
    c.is_stored.ensures c.loop-tile.tile (omega arith) c.args.task.0
    c.task-found.ensures c.loop-tile.best c.loop-tile.invariant

pub returns-clause-none : goal.returns-clause-none
returns-clause-none g c =
    conflict_none c.args.self.now.view c.task-found.result.now c.args.line c.args.write g.N.Naming.image.data_size
    c.is_stored.ensures c.loop-tile.tile (omega arith) c.args.task.0
    c.task-found.ensures c.loop-tile.best c.loop-tile.invariant
