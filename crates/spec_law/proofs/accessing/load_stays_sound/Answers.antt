use Rattle.spec_law.proofs.Accesses.Kept.{load_stays_sound}
use Rattle.spec_law.proofs.accessing.load_stays_sound.Goals as goal

pub returns : goal.returns
returns c = load_stays_sound
