use Rattle.std.proofs.Common.{length}
use Rattle.undo_log.proofs.Restores.{AreLeft}
use Rattle.undo_log.proofs.calls.undo.Given as goal

abbrev pub invariant-loop-access : goal.invariant-loop-access
invariant-loop-access l = AreLeft l.log l.left l.fn.memory l.memory

abbrev pub decreases-loop-access : goal.decreases-loop-access
decreases-loop-access l = length l.left
