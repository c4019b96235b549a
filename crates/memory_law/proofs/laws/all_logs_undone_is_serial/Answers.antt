use Rattle.memory_law.proofs.WholeChains.{all_undone_is_serial}
use Rattle.memory_law.proofs.laws.all_logs_undone_is_serial.Goals as goal

pub returns : goal.returns
returns c = all_undone_is_serial
