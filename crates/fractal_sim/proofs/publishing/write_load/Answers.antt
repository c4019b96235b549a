use Rattle.std.proofs.Common.{refl, length, ◌++◌, Ok}
use Rattle.sim_io.proofs.Proved.{writes_front, writes_then}
use Rattle.script_text.specs.report_text.Report.{body_lines, end_line}
use Rattle.fractal_sim.specs.Texts.{commits_line, load_line}
use Rattle.fractal_sim.proofs.publishing.write_load.Goals as goal

pub returns-in-Ok : goal.returns-in-Ok
returns-in-Ok g c =
    let load = c.args.load in
    let closed = c.args.closed.now in
    let front = load_line load.load load.seed load.size ++ commits_line (length closed.journal) ++ body_lines c.args.image.now closed.memory closed.output in
    writes_then _ _ _ (Ok tt) _ front (end_line c.args.end.now) refl c.in-Ok.ensures c.write_end.ensures

pub returns-in-Err : goal.returns-in-Err
returns-in-Err g c =
    let load = c.args.load in
    let closed = c.args.closed.now in
    let front = load_line load.load load.seed load.size ++ commits_line (length closed.journal) ++ body_lines c.args.image.now closed.memory closed.output in
    writes_front _ _ _ _ front (end_line c.args.end.now) refl c.in-Err.ensures
