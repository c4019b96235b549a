use Rattle.spec_law.proofs.Rooms.Moved.{split_returns_least}
use Rattle.spec_law.proofs.room.split_returns_least.Goals as goal

pub returns : goal.returns
returns c = split_returns_least
