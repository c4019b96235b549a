use Rattle.spec_law.proofs.Renumbers.Sound.{renumbering_stays_sound}
use Rattle.spec_law.proofs.renumbering.renumbering_stays_sound.Goals as goal

pub returns : goal.returns
returns c = renumbering_stays_sound
