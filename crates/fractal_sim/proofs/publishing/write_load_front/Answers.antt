use Rattle.std.proofs.Common.{refl, rules, length, ◌++◌, Err}
use Rattle.sim_io.specs.Parts.{Writes}
use Rattle.sim_io.proofs.Proved.{writes_front, writes_then}
use Rattle.script_text.specs.report_text.Report.{body_lines}
use Rattle.fractal_sim.specs.Texts.{commits_line, load_line}
use Rattle.fractal_sim.proofs.publishing.write_load_front.Goals as goal

pub returns-in-Ok : goal.returns-in-Ok
returns-in-Ok g c =
    let load = c.args.load in
    let closed = c.args.closed.now in
    let before = g.K.Sink.state c.args.sink.now in
    let between = g.K.Sink.state c.write_load_lines.new.sink in
    let lines = load_line load.load load.seed load.size ++ commits_line (length closed.journal) in
    let body = body_lines c.args.image.now closed.memory closed.output in
    let first : Writes before between c.write_load_lines.result lines = search (rules, c.write_load_lines.ensures) in
    let behind : Writes between (g.K.Sink.state c.write_body.new.sink) c.write_body.result body = search (rules, c.write_body.ensures) in
    writes_then _ _ _ c.write_load_lines.result _ lines body (search rules) first behind

pub returns-in-Err : goal.returns-in-Err
returns-in-Err g c =
    let load = c.args.load in
    let closed = c.args.closed.now in
    let before = g.K.Sink.state c.args.sink.now in
    let after = g.K.Sink.state c.write_load_lines.new.sink in
    let lines = load_line load.load load.seed load.size ++ commits_line (length closed.journal) in
    let body = body_lines c.args.image.now closed.memory closed.output in
    let first : Writes before after (Err c.in-Err.failed) lines = search (rules, c.in-Err.ensures) in
    writes_front _ _ _ _ lines body refl first
