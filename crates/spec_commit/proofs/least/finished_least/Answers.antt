use Rattle.std.proofs.Common.{subst, option_map}
use Rattle.spec_state.specs.declared.task.TaskId.{TaskId}
use Rattle.spec_state.specs.Least.{IsHeir}
use Rattle.spec_commit.proofs.Finishing.{has_heir, finished_heir}
use Rattle.spec_commit.proofs.least.finished_least.Goals as goal

pub unreachable-requires : goal.unreachable-requires
unreachable-requires g c =
    let is = c.requires in
    has_heir g.N.Naming.image.data_size c.args.state.now.view c.is_stored.ensures is.0 is.1.0 is.1.1 is.1.2
    (subst (λ h. IsHeir c.args.state.now.view (option_map (λ (id : TaskId). id.0) h)) c.in-None.is c.heir.ensures)

pub returns : goal.returns
returns g c =
    let is = c.requires in
    finished_heir g.N.Naming.image.data_size c.args.state.now.view c.is_stored.ensures is.0 c.in-Some.id.0
    is.1.0 is.1.1 is.1.2
    (subst (λ h. IsHeir c.args.state.now.view (option_map (λ (id : TaskId). id.0) h)) c.in-Some.is c.heir.ensures)
