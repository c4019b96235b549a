use Rattle.task_law.proofs.Advance.{events_advance}
use Rattle.task_law.proofs.progress.events_advance.Goals as goal

pub returns : goal.returns
returns c = events_advance
