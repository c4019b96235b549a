use Rattle.memory_law.proofs.WholeChains.{load_keeps_chain}
use Rattle.memory_law.proofs.laws.load_keeps_chain.Goals as goal

pub returns : goal.returns
returns c = load_keeps_chain
