use Rattle.std.proofs.Common.{◌≡◌, ◌+◌, drop, vec_len, vec_capacity}
use Rattle.serial_machine.proofs.stack.drop_first.Given as goal

abbrev pub invariant-loop-done : goal.invariant-loop-done
invariant-loop-done l = record {
  dropped : l.stack.items ≡ drop l.done l.fn.stack.items;
  len : vec_len l.stack + l.done ≡ vec_len l.fn.stack;
  spare : vec_capacity l.stack ≡ vec_capacity l.fn.stack;
}
