use Rattle.event_law.proofs.Rests.Rest.{rest_is_bounded}
use Rattle.event_law.proofs.laws.rest_is_bounded.Goals as goal

pub returns : goal.returns
returns c = rest_is_bounded
