use Rattle.task_law.proofs.Taken.{aborts_keep}
use Rattle.task_law.proofs.moves.abort_keeps_tasks.Goals as goal

pub returns : goal.returns
returns c = aborts_keep
