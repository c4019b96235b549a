use Rattle.std.proofs.Common.{refl, ◌++◌, Ok}
use Rattle.sim_io.proofs.Proved.{writes_front, writes_then}
use Rattle.report_text.specs.Report.{entry_lines, body_lines, end_line, report}
use Rattle.report_text.proofs.writing.write_report.Goals as goal

pub returns-in-Ok : goal.returns-in-Ok
unfolding report
returns-in-Ok g c =
    writes_then _ _ _ (Ok tt) _ (entry_lines c.args.closed.now.journal ++ body_lines c.args.image.now c.args.closed.now.memory c.args.closed.now.output) (end_line c.args.end.now) refl c.in-Ok.ensures c.write_end.ensures

pub returns-in-Err : goal.returns-in-Err
unfolding report
returns-in-Err g c =
    writes_front _ _ _ _ (entry_lines c.args.closed.now.journal ++ body_lines c.args.image.now c.args.closed.now.memory c.args.closed.now.output) (end_line c.args.end.now) refl c.in-Err.ensures
