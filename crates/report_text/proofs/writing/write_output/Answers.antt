use Rattle.std.proofs.Common.{refl, ◌++◌, codes, Ok}
use Rattle.sim_io.proofs.Proved.{writes_front, writes_then}
use Rattle.report_text.specs.Report.{output_digits, output_line}
use Rattle.report_text.proofs.writing.write_output.Goals as goal

pub returns-in-Ok : goal.returns-in-Ok
unfolding output_line
returns-in-Ok g c =
    writes_then _ _ _ (Ok tt) _ (codes "output " ++ output_digits c.args.output.now) (codes "\n") refl c.in-Ok.ensures c.write_all.ensures

pub returns-in-Err : goal.returns-in-Err
unfolding output_line
returns-in-Err g c =
    writes_front _ _ _ _ (codes "output " ++ output_digits c.args.output.now) (codes "\n") refl c.in-Err.ensures
