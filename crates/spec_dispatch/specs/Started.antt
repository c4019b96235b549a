-- A task that starts.
use Rattle.std.specs.Prelude.{ℕ, Some}
use Rattle.rv_core.specs.Legs.{start_of}
use Rattle.spec_state.specs.declared.task.Status.TheVariants.{Running}
use Rattle.spec_state.specs.declared.task.Task.{Task}

-- the task on a core, at its start, with a dispatch number
abbrev pub started_task : ℕ → ℕ → ℕ → Task → Task
started_task version core number task = record task {
  key = record task.key { tb = Some number };
  status = Running core;
  core = start_of version task.entry task.key.ts task.args;
}
