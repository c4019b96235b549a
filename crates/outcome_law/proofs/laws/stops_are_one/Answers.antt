use Rattle.outcome_law.proofs.Stops.{stops_are_one}
use Rattle.outcome_law.proofs.laws.stops_are_one.Goals as goal

pub returns : goal.returns
returns g c = stops_are_one g.row.N.Denot
