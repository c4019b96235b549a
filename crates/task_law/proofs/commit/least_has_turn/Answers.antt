use Rattle.task_law.proofs.Turning.{least_has_turn}
use Rattle.task_law.proofs.commit.least_has_turn.Goals as goal

pub returns : goal.returns
returns c = least_has_turn
