use Rattle.std.proofs.Common.{◌≡◌, drop}
use Rattle.serial_machine.specs.Turn.{inner}
use Rattle.serial_machine.specs.Stack.{bags}
use Rattle.serial_machine.proofs.stack.top.Given as goal

abbrev pub invariant-loop-k : goal.invariant-loop-k
invariant-loop-k l = inner (bags l.stack) ≡ inner (bags (drop l.k l.stack))
