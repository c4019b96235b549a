use Rattle.order_law.proofs.Opening.{opening_law}
use Rattle.order_law.proofs.laws.opening_is_ordered.Goals as goal

pub returns : goal.returns
returns c = opening_law
