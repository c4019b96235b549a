use Rattle.spec_law.proofs.Rooms.Later.{victim_is_later}
use Rattle.spec_law.proofs.room.victim_is_later.Goals as goal

pub returns : goal.returns
returns c = victim_is_later
