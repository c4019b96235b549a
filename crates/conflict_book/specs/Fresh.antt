-- A view in which nothing has run yet.
use Rattle.std.specs.Prelude.{◌≡◌, ℕ, Some}
use Rattle.event_step.specs.spec_state.declared.task.Creator.TheVariants.{Committed}
use Rattle.event_step.specs.spec_state.declared.task.Status.TheVariants.{Idle}
use Rattle.event_step.specs.spec_state.declared.task.Task.{Task}
use Rattle.event_step.specs.spec_state.View.{View, task_at}

-- each task is idle, and was made by the image
abbrev pub AreFresh : View → Type 0
AreFresh view =
    (id : ℕ) (task : Task) → task_at view id ≡ Some task
    → (task.status ≡ Idle) × ((index : ℕ) × (task.creator ≡ Committed 0 index))
