use Rattle.std.proofs.Common.{refl, Ok}
use Rattle.std.specs.List.{flat_map}
use Rattle.sim_io.proofs.Proved.{writes_front, writes_then}
use Rattle.report_text.specs.Report.{output_line, window_line, window_of, body_lines}
use Rattle.report_text.proofs.writing.write_body.Goals as goal

pub returns-in-Ok : goal.returns-in-Ok
unfolding body_lines
returns-in-Ok g c =
    writes_then _ _ _ (Ok tt) _ (output_line c.args.output.now) (flat_map window_line (window_of c.args.image.now c.args.memory.now)) refl c.in-Ok.ensures c.write_window.ensures

pub returns-in-Err : goal.returns-in-Err
unfolding body_lines
returns-in-Err g c =
    writes_front _ _ _ _ (output_line c.args.output.now) (flat_map window_line (window_of c.args.image.now c.args.memory.now)) refl c.in-Err.ensures
