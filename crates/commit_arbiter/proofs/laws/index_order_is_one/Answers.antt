use Rattle.commit_arbiter.proofs.Ordered.{one_order}
use Rattle.commit_arbiter.proofs.laws.index_order_is_one.Goals as goal

pub returns : goal.returns
returns c = one_order
