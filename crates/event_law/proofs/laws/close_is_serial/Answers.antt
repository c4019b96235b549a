use Rattle.event_law.proofs.Histories.{close_is_serial}
use Rattle.event_law.proofs.laws.close_is_serial.Goals as goal

pub returns : goal.returns
returns c = close_is_serial
