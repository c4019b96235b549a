use Rattle.order_law.proofs.Dispatched.{dispatch_law}
use Rattle.order_law.proofs.laws.dispatch_keeps_order.Goals as goal

pub returns : goal.returns
returns c = dispatch_law
