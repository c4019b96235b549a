use Rattle.order_law.proofs.Heir.{move_heir}
use Rattle.order_law.proofs.laws.spill_keeps_heir.Goals as goal

pub returns : goal.returns
returns c = move_heir
