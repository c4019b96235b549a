use Rattle.order_law.proofs.Heir.{abort_heir}
use Rattle.order_law.proofs.laws.abort_keeps_heir.Goals as goal

pub returns : goal.returns
returns c = abort_heir
