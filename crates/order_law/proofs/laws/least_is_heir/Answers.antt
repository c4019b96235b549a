use Rattle.order_law.proofs.Heir.{least_heir}
use Rattle.order_law.proofs.laws.least_is_heir.Goals as goal

pub returns : goal.returns
returns c = least_heir
