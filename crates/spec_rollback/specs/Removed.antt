-- Tasks that leave, one after another.
use Rattle.std.specs.Prelude.{◌≡◌, ℕ, Bool, length, map, None, if◌then◌else◌}
use Rattle.spec_state.specs.View.{View, task_at}

-- these tasks are gone, and the tiles' lists and cores are as many as they were
pub record RemovesThese (these : ℕ → Bool) (old new : View) : Type 0 where
  pub each : (id : ℕ) → task_at new id ≡ (if these id then None else task_at old id)
  pub queues : length new.queues ≡ length old.queues
  pub finished : length new.finished ≡ length old.finished
  pub cores : map length new.cores ≡ map length old.cores
  pub frame : new ≡ record old { tasks = new.tasks; queues = new.queues; finished = new.finished; cores = new.cores }
