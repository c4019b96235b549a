use Rattle.spec_law.proofs.Rooms.Fit.{victim_is_victim}
use Rattle.spec_law.proofs.room.victim_is_victim.Goals as goal

pub returns : goal.returns
returns c = victim_is_victim
