use Rattle.spec_law.proofs.Accesses.Kept.{store_stays_sound}
use Rattle.spec_law.proofs.accessing.store_stays_sound.Goals as goal

pub returns : goal.returns
returns c = store_stays_sound
