use Rattle.spec_law.proofs.Steps.Laws.{sub_stays_sound}
use Rattle.spec_law.proofs.stepping.sub_stays_sound.Goals as goal

pub returns : goal.returns
returns c = sub_stays_sound
