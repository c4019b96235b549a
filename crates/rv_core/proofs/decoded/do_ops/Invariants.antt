use Rattle.std.proofs.Common.{◌-◌, ◌^◌, ◌<◌, ◌≤◌, length}
use Rattle.rv_core.specs.Ops.{OpsLead, point}
use Rattle.rv_core.proofs.decoded.do_ops.Given as goal

-- as many have been done as the limit has more than what lies between the word that stands next and the bound
abbrev pub invariant-loop-index : goal.invariant-loop-index
invariant-loop-index l = record {
  run : OpsLead l.version l.ops (l.limit - (l.bound - l.index)) (point l.start l.fn.regs l.fn.stack)
      (point l.index l.regs l.stack);
  below : l.index ≤ l.bound;
  left : l.bound - l.index ≤ l.limit;
  inside : l.end ≤ length l.ops;
  within : l.end ≤ l.bound;
  word : l.index < 2 ^ 32;
}

abbrev pub decreases-loop-index : goal.decreases-loop-index
decreases-loop-index l = l.bound - l.index
