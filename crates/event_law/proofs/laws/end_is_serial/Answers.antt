use Rattle.event_law.proofs.Serials.Ends.{end_is_serial}
use Rattle.event_law.proofs.laws.end_is_serial.Goals as goal

pub returns : goal.returns
returns c = end_is_serial
