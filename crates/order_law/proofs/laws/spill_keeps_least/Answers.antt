use Rattle.order_law.proofs.Moved.{move_least}
use Rattle.order_law.proofs.laws.spill_keeps_least.Goals as goal

pub returns : goal.returns
returns c = move_least
