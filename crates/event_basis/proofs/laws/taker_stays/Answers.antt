use Rattle.event_basis.proofs.Rooms.{taker_stays}
use Rattle.event_basis.proofs.laws.taker_stays.Goals as goal

pub returns : goal.returns
returns c = taker_stays
