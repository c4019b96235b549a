use Rattle.spec_law.proofs.Rooms.Child.{child_is_above}
use Rattle.spec_law.proofs.room.child_is_above.Goals as goal

pub returns : goal.returns
returns c = child_is_above
