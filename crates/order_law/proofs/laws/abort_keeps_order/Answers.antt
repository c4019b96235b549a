use Rattle.order_law.proofs.Aborted.{abort_law}
use Rattle.order_law.proofs.laws.abort_keeps_order.Goals as goal

pub returns : goal.returns
returns c = abort_law
