use Rattle.memory_law.proofs.WholeChains.{lines_share_no_byte}
use Rattle.memory_law.proofs.laws.lines_share_no_byte.Goals as goal

pub returns : goal.returns
returns c = lines_share_no_byte
