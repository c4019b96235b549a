use Rattle.event_law.proofs.Rests.RestThere.{rest_is_there}
use Rattle.event_law.proofs.laws.rest_is_there.Goals as goal

pub returns : goal.returns
returns c = rest_is_there
