use Rattle.memory_law.proofs.WholeChains.{latest_is_first}
use Rattle.memory_law.proofs.laws.latest_first.Goals as goal

pub returns : goal.returns
returns c = latest_is_first
