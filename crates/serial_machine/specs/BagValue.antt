-- The pending tasks of a domain (Subramanian et al. 2017, section 3: a domain's tasks commit together, in its order).
use Rattle.std.specs.Prelude.{ℕ, List}
use Rattle.guest_image.specs.declared.image.Kind.{Kind}
use Rattle.pending_list.specs.declared.task.PendingTask.{PendingTask}

-- the depth and the kind of a domain, the timestamp and the commit number of the task that made it (0 and 0 for the
-- root), and its pending tasks
pub record BagValue : Type 0 where
  pub depth : ℕ
  pub kind : Kind
  pub floor : ℕ
  pub owner : ℕ
  pub tasks : List PendingTask
