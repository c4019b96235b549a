use Rattle.task_law.proofs.Turning.{commit_is_turn}
use Rattle.task_law.proofs.commit.commit_is_turn.Goals as goal

pub returns : goal.returns
returns c = commit_is_turn
