use Rattle.task_law.proofs.Victim.{some_rule_applies}
use Rattle.task_law.proofs.room.some_rule_applies.Goals as goal

pub returns : goal.returns
returns c = some_rule_applies
