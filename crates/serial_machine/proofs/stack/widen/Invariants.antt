use Rattle.std.proofs.Common.{◌≡◌, take}
use Rattle.serial_machine.specs.Stack.{bags, HaveSpare}
use Rattle.serial_machine.proofs.stack.widen.Given as goal

abbrev pub invariant-loop-bag : goal.invariant-loop-bag
invariant-loop-bag l = record {
  same : bags l.stack ≡ bags l.fn.stack;
  each : HaveSpare l.more (take l.bag-index l.stack);
}
