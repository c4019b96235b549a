-- What an enqueue reports.
use Rattle.std.specs.Prelude.{◌≡◌, ℕ, Some}
use Rattle.std.specs.declared.option.Option.{Option}
use Rattle.rv_core.specs.LegValue.{LegValue}
use Rattle.task_desc.specs.declared.desc.Spawn.{Spawn}
use Rattle.spec_dispatch.specs.spec_state.declared.task.Task.{Task}
use Rattle.spec_dispatch.specs.spec_state.declared.task.TaskId.{TaskId}
use Rattle.spec_dispatch.specs.spec_state.Changes.{Enqueues}
use Rattle.spec_dispatch.specs.spec_state.View.{View}

-- the child is enqueued, and is reported as the created task
abbrev pub EnqueuesTold : ℕ → Task → LegValue → Spawn → ℕ → View → View → Option TaskId → Type 0
EnqueuesTold id task leg spawn tile old new arrived =
    (enqueues : Enqueues id task leg spawn tile old new) × (arrived ≡ Some (record { 0 = enqueues.child }))
