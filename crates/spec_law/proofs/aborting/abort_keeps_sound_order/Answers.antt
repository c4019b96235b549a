use Rattle.spec_law.proofs.Tasks.Rebound.{abort_keeps_order}
use Rattle.spec_law.proofs.aborting.abort_keeps_sound_order.Goals as goal

pub returns : goal.returns
returns c = abort_keeps_order
