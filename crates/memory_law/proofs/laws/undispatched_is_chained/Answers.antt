use Rattle.memory_law.proofs.WholeChains.{undispatched_is_chained}
use Rattle.memory_law.proofs.laws.undispatched_is_chained.Goals as goal

pub returns : goal.returns
returns c = undispatched_is_chained
