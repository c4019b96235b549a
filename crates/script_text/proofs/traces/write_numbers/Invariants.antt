use Rattle.std.proofs.Common.{take}
use Rattle.std.specs.List.{flat_map}
use Rattle.sim_io.proofs.Proved.{Wrote}
use Rattle.script_text.specs.Traces.{number_line}
use Rattle.script_text.proofs.traces.write_numbers.Given as goal

abbrev pub invariant-loop-number : goal.invariant-loop-number
invariant-loop-number g l =
    Wrote (g.K.Sink.state l.fn.sink) (g.K.Sink.state l.sink) (flat_map number_line (take l.number-index l.list))
