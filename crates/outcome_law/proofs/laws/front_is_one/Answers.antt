use Rattle.outcome_law.proofs.Stops.{front_is_one}
use Rattle.outcome_law.proofs.laws.front_is_one.Goals as goal

pub returns : goal.returns
returns g c = front_is_one g.row.N.Denot
