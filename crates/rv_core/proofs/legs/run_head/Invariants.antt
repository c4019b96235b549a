use Rattle.std.proofs.Common.{◌≡◌, ◌+◌, ◌≤◌}
use Rattle.rv_core.specs.Legs.{PlainInstructions, core_of_parts}
use Rattle.rv_core.proofs.legs.run_head.Given as goal

abbrev pub invariant-loop-steps : goal.invariant-loop-steps
invariant-loop-steps l = record {
  run : PlainInstructions l.image l.data_size l.budget l.steps (core_of_parts l.fn.head l.fn.stack)
      (core_of_parts l.head l.stack);
  used : l.head.used ≡ l.fn.head.used + l.steps;
  within : l.head.used ≤ l.budget;
}
