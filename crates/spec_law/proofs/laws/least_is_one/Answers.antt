use Rattle.spec_law.proofs.Tasks.Ranked.{least_is_one}
use Rattle.spec_law.proofs.laws.least_is_one.Goals as goal

pub returns : goal.returns
returns c = least_is_one
