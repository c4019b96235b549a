use Rattle.std.proofs.Common.{Some, take}
use Rattle.std.proofs.lemmas.List.Elements.{Contains-get_or}
use Rattle.fractal_vt.specs.Keys.{key_cmp}
use Rattle.spec_state.proofs.Picks.{IsAmong, no_pick, picked_live}
use Rattle.spec_state.proofs.Dispatched.{finished_live}
use Rattle.spec_state.proofs.Conflicting.{HasConflict, next_conflict, all_listed}
use Rattle.spec_state.proofs.state.State.conflict_in_queue.Goals as goal

pub if_conflict-requires : goal.if_conflict-requires
if_conflict-requires g c =
    record {
      live =
          finished_live g.N.Naming.image.data_size c.args.self.now.view c.is_stored.ensures c.args.tile
          c.finished_in-ids.result.now c.finished_in-ids.ensures _
          (Contains-get_or c.finished_in-ids.result.now c.loop-id.id-index 0 c.loop-id-test.true);
    }

pub earlier-best-requires-clause-one : goal.earlier-best-requires-clause-one
earlier-best-requires-clause-one g c =
    picked_live key_cmp c.args.self.now.view
    (IsAmong (HasConflict c.args.self.now.view c.args.task.now c.args.line c.args.write
    (λ n. Some (record { 0 = n }))) (take c.loop-id.id-index c.finished_in-ids.result.now))
    (λ k t of. of.2.0.1) c.loop-id.best c.loop-id.invariant

pub earlier-best-requires-clause-two : goal.earlier-best-requires-clause-two
earlier-best-requires-clause-two g c =
    picked_live key_cmp c.args.self.now.view _ (λ k t own. own.0.1) c.if_conflict.result c.if_conflict.ensures

pub loop-id-init : goal.loop-id-init
loop-id-init g c =
    no_pick key_cmp (HasConflict c.args.self.now.view c.args.task.now c.args.line c.args.write
    (λ n. Some (record { 0 = n }))) c.finished_in-ids.result.now

pub loop-id-preserved : goal.loop-id-preserved
loop-id-preserved g c =
    next_conflict c.args.self.now.view c.args.task.now c.args.line c.args.write
    (λ n. Some (record { 0 = n })) c.finished_in-ids.result.now c.loop-id.id-index 0 c.loop-id-test.true
    c.loop-id.best c.if_conflict.result c.earlier-best.result c.loop-id.invariant c.if_conflict.ensures
    c.earlier-best.ensures

pub returns : goal.returns
returns g c =
    all_listed c.args.self.now.view c.args.task.now c.args.line c.args.write g.N.Naming.image.data_size
    c.is_stored.ensures c.args.tile c.finished_in-ids.result.now c.finished_in-ids.ensures
    c.loop-id.id-index c.loop-id-test.false c.loop-id.best c.loop-id.invariant
