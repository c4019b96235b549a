use Rattle.event_basis.proofs.Rooms.{victim_moves}
use Rattle.event_basis.proofs.laws.victim_moves.Goals as goal

pub returns : goal.returns
returns c = victim_moves
