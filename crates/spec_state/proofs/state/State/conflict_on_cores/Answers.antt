use Rattle.std.proofs.Common.{None, take}
use Rattle.std.proofs.lemmas.List.Elements.{Contains-get_or}
use Rattle.fractal_vt.specs.Keys.{key_cmp}
use Rattle.spec_state.proofs.Picks.{IsAmong, no_pick, picked_live}
use Rattle.spec_state.proofs.Dispatched.{core_live}
use Rattle.spec_state.proofs.Conflicting.{HasConflict, next_conflict, all_held}
use Rattle.spec_state.proofs.state.State.conflict_on_cores.Goals as goal

pub if_conflict-requires : goal.if_conflict-requires
if_conflict-requires g c =
    record {
      live =
          core_live g.N.Naming.image.data_size c.args.self.now.view c.is_stored.ensures c.args.tile
          c.held_in-cores.result.now c.held_in-cores.ensures _
          (Contains-get_or c.held_in-cores.result.now c.loop-core.core-index None c.loop-core-test.true);
    }

pub earlier-best-requires-clause-one : goal.earlier-best-requires-clause-one
earlier-best-requires-clause-one g c =
    picked_live key_cmp c.args.self.now.view
    (IsAmong (HasConflict c.args.self.now.view c.args.task.now c.args.line c.args.write (λ held. held))
    (take c.loop-core.core-index c.held_in-cores.result.now))
    (λ k t of. of.2.0.1) c.loop-core.best c.loop-core.invariant

pub earlier-best-requires-clause-two : goal.earlier-best-requires-clause-two
earlier-best-requires-clause-two g c =
    picked_live key_cmp c.args.self.now.view _ (λ k t own. own.0.1) c.if_conflict.result c.if_conflict.ensures

pub loop-core-init : goal.loop-core-init
loop-core-init g c =
    no_pick key_cmp (HasConflict c.args.self.now.view c.args.task.now c.args.line c.args.write (λ held. held))
    c.held_in-cores.result.now

pub loop-core-preserved : goal.loop-core-preserved
loop-core-preserved g c =
    next_conflict c.args.self.now.view c.args.task.now c.args.line c.args.write
    (λ held. held) c.held_in-cores.result.now c.loop-core.core-index None c.loop-core-test.true
    c.loop-core.best c.if_conflict.result c.earlier-best.result c.loop-core.invariant c.if_conflict.ensures
    c.earlier-best.ensures

pub returns : goal.returns
returns g c =
    all_held c.args.self.now.view c.args.task.now c.args.line c.args.write g.N.Naming.image.data_size
    c.is_stored.ensures c.args.tile c.held_in-cores.result.now c.held_in-cores.ensures
    c.loop-core.core-index c.loop-core-test.false c.loop-core.best c.loop-core.invariant
