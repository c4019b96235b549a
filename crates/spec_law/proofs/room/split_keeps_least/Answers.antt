use Rattle.spec_law.proofs.Rooms.Returned.{split_keeps_least}
use Rattle.spec_law.proofs.room.split_keeps_least.Goals as goal

pub returns : goal.returns
returns c = split_keeps_least
