use Rattle.outcome_law.proofs.Opened.{opening_is_one}
use Rattle.outcome_law.proofs.laws.opening_is_one.Goals as goal

pub returns : goal.returns
returns c = opening_is_one
