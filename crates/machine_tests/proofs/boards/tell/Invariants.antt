use Rattle.std.proofs.Common.{◌≡◌}
use Rattle.machine_tests.proofs.boards.tell.Given as goal

abbrev pub invariant-loop : goal.invariant-loop
invariant-loop g l = l.writer.board ≡ l.board
