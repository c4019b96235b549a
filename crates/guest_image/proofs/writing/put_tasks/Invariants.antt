use Rattle.std.proofs.Common.{◌≡◌, ◌++◌, take}
use Rattle.std.specs.List.{flat_map}
use Rattle.guest_image.specs.Writing.{task_bytes}
use Rattle.guest_image.proofs.writing.put_tasks.Given as goal

abbrev pub invariant-loop-task : goal.invariant-loop-task
invariant-loop-task l = l.bytes.items ≡ l.fn.bytes.items ++ flat_map task_bytes (take l.task-index l.tasks)
