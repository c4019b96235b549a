use Rattle.std.proofs.Common.{rules}
use Rattle.spec_state.proofs.Conflicting.{own_conflict}
use Rattle.spec_state.proofs.state.State.if_conflict.Goals as goal

pub returns-then-conflict_between : goal.returns-then-conflict_between
returns-then-conflict_between g c =
    own_conflict c.args.self.now.view c.args.task.now c.args.line c.args.write c.args.id c.in-Some.other
    c.task.result.now c.in-Some.is c.task.ensures (c.conflict_between.ensures.0 (search rules))
