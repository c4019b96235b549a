use Rattle.spec_law.proofs.Aborted.KeptSound.{abort_keeps_sound}
use Rattle.spec_law.proofs.aborting.abort_keeps_sound.Goals as goal

pub returns : goal.returns
returns c = abort_keeps_sound
