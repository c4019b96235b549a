use Rattle.event_law.proofs.Rests.RestThere.{end_is_there}
use Rattle.event_law.proofs.laws.end_is_there.Goals as goal

pub returns : goal.returns
returns c = end_is_there
