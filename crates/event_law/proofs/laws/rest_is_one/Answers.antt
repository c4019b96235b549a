use Rattle.event_law.proofs.Rests.RestOne.{rest_is_one}
use Rattle.event_law.proofs.laws.rest_is_one.Goals as goal

pub returns : goal.returns
returns c = rest_is_one
