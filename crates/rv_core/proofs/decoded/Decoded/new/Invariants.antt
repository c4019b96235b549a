use Rattle.std.proofs.Common.{◌≡◌, length}
use Rattle.rv_core.specs.Ops.{AreOf}
use Rattle.rv_core.proofs.decoded.Decoded.new.Given as goal

abbrev pub invariant-loop-index : goal.invariant-loop-index
invariant-loop-index g l = record {
  of : AreOf l.text l.ops.items;
  count : length l.ops.items ≡ l.index;
}
