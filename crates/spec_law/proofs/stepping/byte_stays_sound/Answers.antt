use Rattle.spec_law.proofs.Steps.Laws.{byte_stays_sound}
use Rattle.spec_law.proofs.stepping.byte_stays_sound.Goals as goal

pub returns : goal.returns
returns c = byte_stays_sound
