use Rattle.spec_law.proofs.Steps.Laws.{quantum_stays_sound}
use Rattle.spec_law.proofs.stepping.quantum_stays_sound.Goals as goal

pub returns : goal.returns
returns c = quantum_stays_sound
