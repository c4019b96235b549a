use Rattle.order_law.proofs.Held.{held_law}
use Rattle.order_law.proofs.laws.domain_numbers_are_held.Goals as goal

pub returns : goal.returns
returns c = held_law
