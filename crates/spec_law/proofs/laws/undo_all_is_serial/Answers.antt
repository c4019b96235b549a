use Rattle.spec_law.proofs.Aborted.Undone as undone
use Rattle.spec_law.proofs.laws.undo_all_is_serial.Goals as goal

pub returns : goal.returns
returns c = undone.undo_all_is_serial
