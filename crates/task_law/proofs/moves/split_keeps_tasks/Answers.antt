use Rattle.task_law.proofs.Coalesce.{splits_keep}
use Rattle.task_law.proofs.moves.split_keeps_tasks.Goals as goal

pub returns : goal.returns
returns c = splits_keep
