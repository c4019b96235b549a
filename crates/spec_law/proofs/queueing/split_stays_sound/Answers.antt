use Rattle.spec_law.proofs.Moves.SplitSound.{split_stays_sound}
use Rattle.spec_law.proofs.queueing.split_stays_sound.Goals as goal

pub returns : goal.returns
returns c = split_stays_sound
