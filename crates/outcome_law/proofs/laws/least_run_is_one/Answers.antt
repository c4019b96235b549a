use Rattle.outcome_law.proofs.Closes.{least_run_is_one}
use Rattle.outcome_law.proofs.laws.least_run_is_one.Goals as goal

pub returns : goal.returns
returns g c = least_run_is_one g.row.N.Denot
