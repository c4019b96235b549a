use Rattle.memory_law.proofs.WholeChains.{chain_is_replay}
use Rattle.memory_law.proofs.laws.chain_is_replay.Goals as goal

pub returns : goal.returns
returns c = chain_is_replay
