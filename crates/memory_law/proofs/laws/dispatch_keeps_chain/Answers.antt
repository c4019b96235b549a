use Rattle.memory_law.proofs.WholeChains.{dispatch_keeps_chain}
use Rattle.memory_law.proofs.laws.dispatch_keeps_chain.Goals as goal

pub returns : goal.returns
returns c = dispatch_keeps_chain
