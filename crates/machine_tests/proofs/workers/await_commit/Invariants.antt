use Rattle.std.proofs.Common.{◌≡◌}
use Rattle.machine_tests.proofs.workers.await_commit.Given as goal

abbrev pub invariant-loop : goal.invariant-loop
invariant-loop g l = l.reader.board ≡ l.board
