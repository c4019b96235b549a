use Rattle.fractal_vt.specs.Keys.{key_cmp}
use Rattle.spec_state.proofs.Picks.{picked_live}
use Rattle.spec_state.proofs.Conflicting.{conflict_of_both}
use Rattle.spec_state.proofs.state.State.conflict_in.Goals as goal

pub earlier-requires-clause-one : goal.earlier-requires-clause-one
earlier-requires-clause-one g c =
    picked_live key_cmp c.args.self.now.view _
    (λ k t is. is.0.1.there) c.conflict_on_cores.result c.conflict_on_cores.ensures

pub earlier-requires-clause-two : goal.earlier-requires-clause-two
earlier-requires-clause-two g c =
    picked_live key_cmp c.args.self.now.view _
    (λ k t is. is.0.there) c.conflict_in_queue.result c.conflict_in_queue.ensures

pub returns : goal.returns
returns g c =
    conflict_of_both c.args.self.now.view c.args.task.now c.args.line c.args.write g.N.Naming.image.data_size
    c.is_stored.ensures c.args.tile c.conflict_on_cores.result
    c.conflict_in_queue.result c.earlier.result c.conflict_on_cores.ensures c.conflict_in_queue.ensures
    c.earlier.ensures
