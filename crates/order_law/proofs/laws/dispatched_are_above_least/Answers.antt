use Rattle.order_law.proofs.Least.{below_dispatched}
use Rattle.order_law.proofs.laws.dispatched_are_above_least.Goals as goal

pub returns : goal.returns
returns c = below_dispatched
