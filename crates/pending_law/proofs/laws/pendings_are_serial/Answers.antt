use Rattle.pending_law.proofs.Serial.{pendings_are_serial}
use Rattle.pending_law.proofs.laws.pendings_are_serial.Goals as goal

pub returns : goal.returns
returns c = pendings_are_serial
