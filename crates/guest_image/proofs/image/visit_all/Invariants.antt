use Rattle.std.proofs.Common.{ℕ, ◌<◌, slice_index_or}
use Rattle.guest_image.specs.declared.image.ImageTask.{ImageTask}
use Rattle.guest_image.specs.ImageValue.{IsTask}
use Rattle.guest_image.proofs.image.visit_all.Given as goal

abbrev pub invariant-loop-task : goal.invariant-loop-task
invariant-loop-task l = (k : ℕ) (d : ImageTask) → k < l.task-index → IsTask (slice_index_or l.tasks k d)
