use Rattle.std.proofs.Common.{◌≤◌}
use Rattle.tile_worker.proofs.working.drive.Given as goal

abbrev pub invariant-loop : goal.invariant-loop
invariant-loop g l = g.K.BookLock.amount l.fn.part ≤ g.K.BookLock.amount l.carried.part
