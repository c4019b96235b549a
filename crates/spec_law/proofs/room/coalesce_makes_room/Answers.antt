use Rattle.spec_law.proofs.Rooms.Moved.{coalesce_makes_room}
use Rattle.spec_law.proofs.room.coalesce_makes_room.Goals as goal

pub returns : goal.returns
returns c = coalesce_makes_room
