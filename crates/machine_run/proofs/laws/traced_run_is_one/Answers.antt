use Rattle.machine_run.proofs.One.{traced_run_is_one}
use Rattle.machine_run.proofs.laws.traced_run_is_one.Goals as goal

pub returns : goal.returns
returns g c = traced_run_is_one g.row.N.Denot
