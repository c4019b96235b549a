use Rattle.spec_law.proofs.Enqueues.Steps.{enqueue_stays_sound}
use Rattle.spec_law.proofs.accessing.enqueue_stays_sound.Goals as goal

pub returns : goal.returns
returns c = enqueue_stays_sound
