use Rattle.std.proofs.Common.{◌≡◌, ◌+◌, ◌≤◌, ◌-◌}
use Rattle.rv_core.specs.Legs.{PlainInstructions}
use Rattle.rv_core.proofs.decoded.run_decoded.Given as goal

abbrev pub invariant-loop-steps : goal.invariant-loop-steps
invariant-loop-steps g l = record {
  run : PlainInstructions l.image l.data_size l.budget l.steps l.fn.core l.core;
  bound : l.steps ≤ l.limit;
  used : l.core.used ≡ l.fn.core.used + l.steps;
}

abbrev pub decreases-loop-steps : goal.decreases-loop-steps
decreases-loop-steps g l = l.limit - l.steps
