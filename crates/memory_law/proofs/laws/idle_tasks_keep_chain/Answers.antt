use Rattle.memory_law.proofs.WholeChains.{idle_tasks_keep_chain}
use Rattle.memory_law.proofs.laws.idle_tasks_keep_chain.Goals as goal

pub returns : goal.returns
returns c = idle_tasks_keep_chain
