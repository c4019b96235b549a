use Rattle.task_law.proofs.Whole.{least_traps}
use Rattle.task_law.proofs.commit.least_traps_serially.Goals as goal

pub returns : goal.returns
returns c = least_traps
