-- A task leaves its lists, or is idle again in its place of its queue.
use Rattle.std.specs.Prelude.{◌≡◌, ◌==◌, ◌↔◌, ℕ, List, map, Option, Some, None, slice_get, if◌then◌else◌}
use Rattle.tile_queues.specs.Queue.{ids_but}
use Rattle.spec_state.specs.declared.task.Status.{Status}
use Rattle.spec_state.specs.declared.task.Task.{Task}
use Rattle.spec_state.specs.Stored.{HasCore}
use Rattle.spec_state.specs.Tasks.{idle_again}
use Rattle.spec_state.specs.View.{View, task_at, ChangesTask}

-- the core is free where it holds this task
abbrev pub freed_of : ℕ → Option ℕ → Option ℕ
freed_of id None = None
freed_of id (Some held) = if held == id then None else Some held

-- these cores of a tile hold the task of this id where its status says so, and nowhere else
abbrev pub IsHeldAs : ℕ → Status → List (Option ℕ) → Type 0
IsHeldAs id status cores = (core : ℕ) → (slice_get cores core ≡ Some (Some id)) ↔ HasCore status core

-- a task leaves: it is in no list and on no core any more, and all else stays
pub record TaskLeaves (id : ℕ) (old new : View) : Type 0 where
  pub changes : ChangesTask old new id None
  pub queues : new.queues ≡ map (ids_but id) old.queues
  pub finished : new.finished ≡ map (ids_but id) old.finished
  pub cores : new.cores ≡ map (map (freed_of id)) old.cores
  pub frame : new ≡ record old { tasks = new.tasks; queues = new.queues; finished = new.finished; cores = new.cores }

-- a task is as it was before its dispatch, at its own place of its task queue: it is in no commit queue and on no core
-- any more, and all else stays
pub record SetsBack (id : ℕ) (old new : View) : Type 0 where
  pub task : Task
  pub there : task_at old id ≡ Some task
  pub changes : ChangesTask old new id (Some (idle_again old.version task))
  pub finished : new.finished ≡ map (ids_but id) old.finished
  pub cores : new.cores ≡ map (map (freed_of id)) old.cores
  pub frame : new ≡ record old { tasks = new.tasks; finished = new.finished; cores = new.cores }
