use Rattle.order_law.proofs.Renumbered.{renumber_law}
use Rattle.order_law.proofs.laws.renumbering_keeps_order.Goals as goal

pub returns : goal.returns
returns c = renumber_law
