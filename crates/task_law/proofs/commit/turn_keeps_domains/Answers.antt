use Rattle.task_law.proofs.Fitting.{turns_keep_domains}
use Rattle.task_law.proofs.commit.turn_keeps_domains.Goals as goal

pub returns : goal.returns
returns c = turns_keep_domains
