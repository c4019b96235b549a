use Rattle.spec_law.proofs.Aborted.Kept.{abort_keeps_memory}
use Rattle.spec_law.proofs.aborting.abort_keeps_sound_memory.Goals as goal

pub returns : goal.returns
returns c = abort_keeps_memory
