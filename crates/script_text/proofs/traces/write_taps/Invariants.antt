use Rattle.std.proofs.Common.{map, take}
use Rattle.std.specs.List.{enumerate_from, flat_map}
use Rattle.sim_io.proofs.Proved.{Wrote}
use Rattle.script_text.specs.Traces.{tap_lines}
use Rattle.script_text.proofs.traces.write_taps.Given as goal

abbrev pub invariant-loop-index : goal.invariant-loop-index
invariant-loop-index g l =
    Wrote (g.K.Sink.state l.fn.sink) (g.K.Sink.state l.sink)
    (flat_map tap_lines (take l.index (enumerate_from 0 (map (λ list. list.items) l.lists))))
