use Rattle.order_law.proofs.Heir.{dispatched_least_heir}
use Rattle.order_law.proofs.laws.dispatch_makes_heir.Goals as goal

pub returns : goal.returns
returns c = dispatched_least_heir
