use Rattle.outcome_law.proofs.Closes.{close_is_one}
use Rattle.outcome_law.proofs.laws.close_is_one.Goals as goal

pub returns : goal.returns
returns c = close_is_one
