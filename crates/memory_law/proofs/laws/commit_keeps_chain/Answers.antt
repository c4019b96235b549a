use Rattle.memory_law.proofs.WholeChains.{commit_keeps_chain}
use Rattle.memory_law.proofs.laws.commit_keeps_chain.Goals as goal

pub returns : goal.returns
returns c = commit_keeps_chain
