use Rattle.memory_law.proofs.WholeChains.{store_keeps_chain}
use Rattle.memory_law.proofs.laws.store_keeps_chain.Goals as goal

pub returns : goal.returns
returns c = store_keeps_chain
