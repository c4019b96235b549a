use Rattle.order_law.proofs.Innermost.{innermost}
use Rattle.order_law.proofs.laws.least_is_innermost.Goals as goal

pub returns : goal.returns
returns c = innermost
