use Rattle.spec_law.proofs.Aborted.KeptTasks.{abort_keeps_tasks}
use Rattle.spec_law.proofs.aborting.abort_keeps_sound_tasks.Goals as goal

pub returns : goal.returns
returns c = abort_keeps_tasks
