use Rattle.std.proofs.Common.{◌≤◌, ◌-◌, ◌+◌, vec_len}
use Rattle.std.specs.Io.KnownBytes.{Consumes}
use Rattle.sim_io.proofs.whole.read_all.Given as goal

abbrev pub invariant-chunks : goal.invariant-chunks
invariant-chunks g l = record {
  within : vec_len l.bytes ≤ l.limit;
  taken : Consumes (g.S.Source.state l.fn.source).left (g.S.Source.state l.source).left l.bytes.items;
  later : (g.S.Source.state l.fn.source).faults ≤ (g.S.Source.state l.source).faults;
}

abbrev pub decreases-chunks : goal.decreases-chunks
decreases-chunks g l = l.limit + 1 - vec_len l.bytes
