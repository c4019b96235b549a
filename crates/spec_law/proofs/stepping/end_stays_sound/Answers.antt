use Rattle.spec_law.proofs.Steps.Laws.{end_stays_sound}
use Rattle.spec_law.proofs.stepping.end_stays_sound.Goals as goal

pub returns : goal.returns
returns c = end_stays_sound
