-- A tile with an idle task and a core that holds none, and the kept core of a running task.
use Rattle.std.specs.Prelude.{◌≡◌, ℕ}
use Rattle.rv_core.specs.declared.state.Core.{Core}
use Rattle.event_step.specs.spec_state.declared.task.Task.{Task}
use Rattle.event_step.specs.spec_state.Queries.{IsFreeCore, IsIdle, IsRunning}
use Rattle.event_step.specs.spec_state.View.{View}

-- the tile has an idle task, and a core that holds no task
abbrev pub IsReady : View → ℕ → Type 0
IsReady view tile =
    ((id : ℕ) × (task : Task) × IsIdle view tile id task) × ((core : ℕ) × IsFreeCore view tile core)

-- a task runs on that core of the tile, and this is its kept core
abbrev pub HasRunning : View → ℕ → ℕ → Core → Type 0
HasRunning view tile at core = (id : ℕ) × (task : Task) × IsRunning view tile at id task × (core ≡ task.core)
