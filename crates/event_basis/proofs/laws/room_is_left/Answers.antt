use Rattle.event_basis.proofs.Rooms.{room_leaves}
use Rattle.event_basis.proofs.laws.room_is_left.Goals as goal

pub returns : goal.returns
returns c = room_leaves
