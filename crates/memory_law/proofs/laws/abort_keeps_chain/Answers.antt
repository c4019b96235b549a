use Rattle.memory_law.proofs.WholeChains.{abort_keeps_chain}
use Rattle.memory_law.proofs.laws.abort_keeps_chain.Goals as goal

pub returns : goal.returns
returns c = abort_keeps_chain
