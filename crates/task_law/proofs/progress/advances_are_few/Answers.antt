use Rattle.task_law.proofs.Advance.{advances_are_few}
use Rattle.task_law.proofs.progress.advances_are_few.Goals as goal

pub returns : goal.returns
returns c = advances_are_few
