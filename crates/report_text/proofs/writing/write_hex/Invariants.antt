use Rattle.std.proofs.Common.{◌≤◌, ◌-◌, length, take}
use Rattle.std.specs.List.{flat_map}
use Rattle.sim_io.proofs.Proved.{Wrote}
use Rattle.report_text.specs.Hex.{byte_hex}
use Rattle.report_text.proofs.writing.write_hex.Given as goal

abbrev pub invariant-loop-at : goal.invariant-loop-at
invariant-loop-at g l = record {
  inside : l.at ≤ length l.bytes;
  wrote : Wrote (g.K.Sink.state l.fn.sink) (g.K.Sink.state l.sink) (flat_map byte_hex (take l.at l.bytes));
}

abbrev pub decreases-loop-at : goal.decreases-loop-at
decreases-loop-at g l = length l.bytes - l.at
