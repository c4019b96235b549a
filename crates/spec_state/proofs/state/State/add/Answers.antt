use Rattle.spec_state.proofs.Put.{root_formed}
use Rattle.spec_state.proofs.state.State.add.Goals as goal

pub put-requires-clause-formed : goal.put-requires-clause-formed
put-requires-clause-formed g c = root_formed _ c.args.desc.now _ _ c.args.tile _ c.root_task.ensures c.requires.image
