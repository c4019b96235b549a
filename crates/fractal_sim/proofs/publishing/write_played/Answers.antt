use Rattle.std.proofs.Common.{refl, Ok, None}
use Rattle.sim_io.proofs.Proved.{writes_front, writes_then}
use Rattle.machine_run.specs.Least.{run_of_closed}
use Rattle.script_text.specs.Replies.{reply_lines}
use Rattle.fractal_sim.specs.Texts.{run_text}
use Rattle.fractal_sim.proofs.publishing.write_played.Goals as goal

pub returns-in-Ok : goal.returns-in-Ok
returns-in-Ok g c =
    writes_then _ _ _ (Ok tt) _ (reply_lines c.args.said.now) (run_text c.args.image.now (run_of_closed c.args.closed.now None) c.args.end.now) refl c.in-Ok.ensures c.write_report.ensures

pub returns-in-Err : goal.returns-in-Err
returns-in-Err g c =
    writes_front _ _ _ _ (reply_lines c.args.said.now) (run_text c.args.image.now (run_of_closed c.args.closed.now None) c.args.end.now) refl c.in-Err.ensures
