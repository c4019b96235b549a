use Rattle.order_law.proofs.Committed.{commit_law}
use Rattle.order_law.proofs.laws.commit_keeps_order.Goals as goal

pub returns : goal.returns
returns c = commit_law
