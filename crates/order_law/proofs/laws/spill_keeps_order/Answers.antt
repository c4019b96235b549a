use Rattle.order_law.proofs.Moved.{move_law}
use Rattle.order_law.proofs.laws.spill_keeps_order.Goals as goal

pub returns : goal.returns
returns c = move_law
