use Rattle.task_law.proofs.Grown.{placements_keep}
use Rattle.task_law.proofs.moves.placement_keeps_tasks.Goals as goal

pub returns : goal.returns
returns c = placements_keep
