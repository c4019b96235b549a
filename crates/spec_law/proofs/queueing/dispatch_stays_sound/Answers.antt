use Rattle.spec_law.proofs.Dispatches.Sound.{dispatch_stays_sound}
use Rattle.spec_law.proofs.queueing.dispatch_stays_sound.Goals as goal

pub returns : goal.returns
returns c = dispatch_stays_sound
