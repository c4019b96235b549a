use Rattle.std.proofs.Common.{refl, rules, Ok}
use Rattle.sim_io.specs.Parts.{Writes}
use Rattle.sim_io.proofs.Proved.{writes_front, writes_then}
use Rattle.report_text.specs.Report.{entry_lines, body_lines}
use Rattle.report_text.proofs.writing.write_front.Goals as goal

pub returns-in-Ok : goal.returns-in-Ok
returns-in-Ok g c =
    let closed = c.args.closed.now in
    let body = body_lines c.args.image.now closed.memory closed.output in
    let behind : Writes (g.K.Sink.state c.write_entries.new.sink) (g.K.Sink.state c.write_body.new.sink) c.write_body.result body = search (rules, c.write_body.ensures) in
    writes_then _ _ _ (Ok tt) _ (entry_lines closed.journal) body refl c.in-Ok.ensures behind

pub returns-in-Err : goal.returns-in-Err
returns-in-Err g c =
    let closed = c.args.closed.now in
    writes_front _ _ _ _ (entry_lines closed.journal) (body_lines c.args.image.now closed.memory closed.output) refl c.in-Err.ensures
