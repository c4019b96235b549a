use Rattle.outcome_law.proofs.Stops.{stop_is_one}
use Rattle.outcome_law.proofs.laws.stop_is_one.Goals as goal

pub returns : goal.returns
returns g c = stop_is_one g.row.N.Denot
