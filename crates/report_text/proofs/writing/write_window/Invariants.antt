use Rattle.std.proofs.Common.{take}
use Rattle.std.specs.List.{flat_map}
use Rattle.sim_io.proofs.Proved.{Wrote}
use Rattle.report_text.specs.Report.{window_line, window_of}
use Rattle.report_text.proofs.writing.write_window.Given as goal

abbrev pub invariant-loop-place : goal.invariant-loop-place
invariant-loop-place g l =
    Wrote (g.K.Sink.state l.fn.sink) (g.K.Sink.state l.sink) (flat_map window_line (take l.place (window_of l.image l.memory)))
