use Rattle.task_law.proofs.Whole.{least_commits}
use Rattle.task_law.proofs.commit.least_commits_serially.Goals as goal

pub returns : goal.returns
returns c = least_commits
