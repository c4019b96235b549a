use Rattle.task_law.proofs.Rooms.{victims_make_room}
use Rattle.task_law.proofs.room.victim_makes_room.Goals as goal

pub returns : goal.returns
returns c = victims_make_room
