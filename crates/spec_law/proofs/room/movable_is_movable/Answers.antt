use Rattle.spec_law.proofs.Rooms.Fit.{movable_is_movable}
use Rattle.spec_law.proofs.room.movable_is_movable.Goals as goal

pub returns : goal.returns
returns c = movable_is_movable
