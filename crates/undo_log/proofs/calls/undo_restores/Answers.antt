use Rattle.undo_log.proofs.Restores.{undo_restores_lem}
use Rattle.undo_log.proofs.calls.undo_restores.Goals as goal

pub returns : goal.returns
returns c = undo_restores_lem
