use Rattle.std.proofs.Common.{◌≡◌, map, take}
use Rattle.resume_image.specs.Saved.{saved_task}
use Rattle.resume_image.proofs.saving.tasks_of.Given as goal

abbrev pub invariant-loop-task : goal.invariant-loop-task
invariant-loop-task l = l.tasks.items ≡ map saved_task (take l.task-index l.pending)
