use Rattle.task_law.proofs.Grown.{dispatches_keep}
use Rattle.task_law.proofs.moves.dispatch_keeps_tasks.Goals as goal

pub returns : goal.returns
returns c = dispatches_keep
