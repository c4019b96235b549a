use Rattle.spill_store.proofs.Drained.{comes_back}
use Rattle.spill_store.proofs.laws.block_gives_back.Goals as goal

pub returns : goal.returns
returns c = comes_back
