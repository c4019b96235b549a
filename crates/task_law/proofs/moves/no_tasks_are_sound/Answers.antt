use Rattle.task_law.proofs.Grown.{none_sound}
use Rattle.task_law.proofs.moves.no_tasks_are_sound.Goals as goal

pub returns : goal.returns
returns c = none_sound
