use Rattle.task_law.proofs.Freed.{commits_keep}
use Rattle.task_law.proofs.commit.commit_keeps_tasks.Goals as goal

pub returns : goal.returns
returns c = commits_keep
