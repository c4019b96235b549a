use Rattle.outcome_law.proofs.Closes.{events_are_one}
use Rattle.outcome_law.proofs.laws.events_are_one.Goals as goal

pub returns : goal.returns
returns g c = events_are_one g.row.N.Denot
