use Rattle.spec_law.proofs.Steps.Laws.{trap_stays_sound}
use Rattle.spec_law.proofs.stepping.trap_stays_sound.Goals as goal

pub returns : goal.returns
returns c = trap_stays_sound
