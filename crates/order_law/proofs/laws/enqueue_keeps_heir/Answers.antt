use Rattle.order_law.proofs.Heir.{enqueue_heir}
use Rattle.order_law.proofs.laws.enqueue_keeps_heir.Goals as goal

pub returns : goal.returns
returns c = enqueue_heir
