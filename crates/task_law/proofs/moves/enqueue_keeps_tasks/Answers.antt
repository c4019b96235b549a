use Rattle.task_law.proofs.Grown.{enqueues_keep}
use Rattle.task_law.proofs.moves.enqueue_keeps_tasks.Goals as goal

pub returns : goal.returns
returns c = enqueues_keep
