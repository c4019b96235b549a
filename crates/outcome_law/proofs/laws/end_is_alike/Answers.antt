use Rattle.outcome_law.proofs.Leasts.{end_is_alike}
use Rattle.outcome_law.proofs.laws.end_is_alike.Goals as goal

pub returns : goal.returns
returns c = end_is_alike
