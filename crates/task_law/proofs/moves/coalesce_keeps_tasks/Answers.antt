use Rattle.task_law.proofs.Coalesce.{coalesces_keep}
use Rattle.task_law.proofs.moves.coalesce_keeps_tasks.Goals as goal

pub returns : goal.returns
returns c = coalesces_keep
