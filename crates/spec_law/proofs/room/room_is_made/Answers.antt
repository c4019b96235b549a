use Rattle.spec_law.proofs.Rooms.Made.{room_is_made}
use Rattle.spec_law.proofs.room.room_is_made.Goals as goal

pub returns : goal.returns
returns c = room_is_made
