use Rattle.memory_law.proofs.WholeChains.{no_conflict_is_left}
use Rattle.memory_law.proofs.laws.no_conflict_is_left.Goals as goal

pub returns : goal.returns
returns c = no_conflict_is_left
