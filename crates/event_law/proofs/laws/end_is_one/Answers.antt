use Rattle.event_law.proofs.Ends.{end_is_one}
use Rattle.event_law.proofs.laws.end_is_one.Goals as goal

pub returns : goal.returns
returns c = end_is_one
