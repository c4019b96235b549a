use Rattle.std.proofs.Common.{rules}
use Rattle.undo_log.proofs.Restores.{AreLeft-store, AreLeft-load}
use Rattle.undo_log.proofs.calls.undo.Goals as goal

pub loop-access-preserved-then-is_some : goal.loop-access-preserved-then-is_some
loop-access-preserved-then-is_some c =
    AreLeft-store c.args.log.now c.in-Some.earlier.now c.loop-access.left.now c.in-Some.access.now c.args.memory.now c.loop-access.memory
    (search rules) c.loop-access.invariant c.write.new.self (search rules) (search rules)

pub loop-access-preserved : goal.loop-access-preserved
loop-access-preserved c =
    AreLeft-load c.args.log.now c.in-Some.earlier.now c.loop-access.left.now c.in-Some.access.now c.args.memory.now c.loop-access.memory
    (search rules) c.loop-access.invariant (search rules)
