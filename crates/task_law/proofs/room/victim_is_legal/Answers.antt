use Rattle.task_law.proofs.Rooms.{victims_are_legal}
use Rattle.task_law.proofs.room.victim_is_legal.Goals as goal

pub returns : goal.returns
returns c = victims_are_legal
