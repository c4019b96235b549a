use Rattle.memory_law.proofs.Orders.{one_order}
use Rattle.memory_law.proofs.laws.key_order_is_one.Goals as goal

pub returns : goal.returns
returns c = one_order
