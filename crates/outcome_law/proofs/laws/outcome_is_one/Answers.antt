use Rattle.outcome_law.proofs.Outcomes.{outcome_is_one}
use Rattle.outcome_law.proofs.laws.outcome_is_one.Goals as goal

pub returns : goal.returns
returns g c = outcome_is_one g.row.N.Denot
