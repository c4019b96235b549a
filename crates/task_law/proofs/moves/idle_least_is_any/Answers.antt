use Rattle.task_law.proofs.Grown.{idle_least}
use Rattle.task_law.proofs.moves.idle_least_is_any.Goals as goal

pub returns : goal.returns
returns c = idle_least
