use Rattle.machine_run.proofs.One.{played_run_is_one}
use Rattle.machine_run.proofs.laws.played_run_is_one.Goals as goal

pub returns : goal.returns
returns g c = played_run_is_one g.row.N.Denot
