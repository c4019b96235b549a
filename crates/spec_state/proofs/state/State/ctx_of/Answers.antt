use Rattle.spec_state.proofs.state.State.ctx_of.Goals as goal

pub context-requires-clause-children : goal.context-requires-clause-children
context-requires-clause-children g c =
    (c.is_stored.ensures.tasks c.args.task.0 c.task.result.now c.task.ensures).children

pub context-requires-clause-depth : goal.context-requires-clause-depth
context-requires-clause-depth g c = (c.is_stored.ensures.tasks c.args.task.0 c.task.result.now c.task.ensures).depth
