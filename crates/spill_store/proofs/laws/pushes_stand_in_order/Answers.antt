use Rattle.spill_store.proofs.Pushed.{stand_in_order}
use Rattle.spill_store.proofs.laws.pushes_stand_in_order.Goals as goal

pub returns : goal.returns
returns c = stand_in_order
