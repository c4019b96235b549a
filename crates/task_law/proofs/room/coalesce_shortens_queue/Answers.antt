use Rattle.task_law.proofs.Victim.{coalescing_makes_room}
use Rattle.task_law.proofs.room.coalesce_shortens_queue.Goals as goal

pub returns : goal.returns
returns c = coalescing_makes_room
