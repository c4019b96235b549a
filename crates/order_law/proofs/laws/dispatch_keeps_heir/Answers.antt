use Rattle.order_law.proofs.Heir.{dispatch_heir}
use Rattle.order_law.proofs.laws.dispatch_keeps_heir.Goals as goal

pub returns : goal.returns
returns c = dispatch_heir
