use Rattle.spec_law.proofs.Moves.CoalesceSound.{coalesce_stays_sound}
use Rattle.spec_law.proofs.queueing.coalesce_stays_sound.Goals as goal

pub returns : goal.returns
returns c = coalesce_stays_sound
