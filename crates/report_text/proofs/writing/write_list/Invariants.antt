use Rattle.std.proofs.Common.{take}
use Rattle.std.specs.List.{flat_map, enumerate_from}
use Rattle.sim_io.proofs.Proved.{Wrote}
use Rattle.report_text.specs.Report.{entry_line}
use Rattle.report_text.proofs.writing.write_list.Given as goal

abbrev pub invariant-loop-index : goal.invariant-loop-index
invariant-loop-index g l =
    Wrote (g.K.Sink.state l.fn.sink) (g.K.Sink.state l.sink) (flat_map entry_line (take l.index (enumerate_from 1 l.entries)))
