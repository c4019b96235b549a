use Rattle.order_law.proofs.Spawned.{enqueue_law}
use Rattle.order_law.proofs.laws.enqueue_keeps_order.Goals as goal

pub returns : goal.returns
returns c = enqueue_law
