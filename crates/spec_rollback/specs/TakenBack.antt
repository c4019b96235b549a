-- Marked tasks that are aborted one after another.
use Rattle.std.specs.Prelude.{◌≡◌, ◌⊎◌, ℕ, Bool, true, false, not, List, map, filter, Option, None, Some}
use Rattle.std.specs.Prelude.{if◌then◌else◌}
use Rattle.spec_state.specs.task_law.Room.{queue_after}
use Rattle.spec_state.specs.declared.task.Task.{Task}
use Rattle.spec_state.specs.View.{View, task_at}
use Rattle.spec_state.specs.Groups.{room_tasks, live_creator}
use Rattle.spec_state.specs.Aborts.{is_marked_creator, taken_back}
use Rattle.spec_state.specs.Leaving.{TaskLeaves, SetsBack}

-- the core is free where the task that it holds is one of these
abbrev pub freed_of_these : (ℕ → Bool) → Option ℕ → Option ℕ
freed_of_these these None = None
freed_of_these these (Some id) = if these id then None else Some id

-- a task whose creator is marked leaves, and another one is idle again
pub record TakesOne (marks : List Bool) (id : ℕ) (old new : View) : Type 0 where
  pub task : Task
  pub there : task_at old id ≡ Some task
  pub taken : ((is_marked_creator marks (live_creator task.creator) ≡ true) × TaskLeaves id old new)
      ⊎ ((is_marked_creator marks (live_creator task.creator) ≡ false) × SetsBack id old new)

-- of the marked tasks these are aborted, and all else stays
pub record TakesThese (marks : List Bool) (these : ℕ → Bool) (old new : View) : Type 0 where
  pub each : (id : ℕ) → task_at new
      id ≡ (if these id then taken_back old.version marks id (task_at old id) else task_at old id)
  pub queues : new.queues ≡ map (queue_after (room_tasks new)) old.queues
  pub finished : new.finished ≡ map (filter (λ id. not (these id))) old.finished
  pub cores : new.cores ≡ map (map (freed_of_these these)) old.cores
  pub frame : new ≡ record old { tasks = new.tasks; queues = new.queues; finished = new.finished; cores = new.cores }
