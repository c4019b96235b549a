-- The event for the least task, and what is left for a loop of them.
use Rattle.std.proofs.Common.{ℕ, ◌≡◌, refl, arith}
use Rattle.guest_image.specs.ImageValue.{ImageValue}
use Rattle.event_law.specs.task_law.Advance as standing
use Rattle.rv_core.specs.LegValue.{LegValue}
use Rattle.event_law.specs.spec_state.declared.task.Status.TheVariants.{Finished, Idle, Running}
use Rattle.event_law.specs.spec_state.declared.task.Task.{Task}
use Rattle.event_law.specs.spec_state.Least.{IsLeastSpilled, IsLeastTask}
use Rattle.event_law.specs.spec_state.View.{View}
use Rattle.event_law.specs.event_def.declared.event.Event.TheVariants as event
use Rattle.event_law.specs.event_def.End.{IsOver}
use Rattle.event_law.specs.event_def.Advancing.{IsLegFrom, IsNextEvent}
use Rattle.event_law.proofs.Proved.{advances_fall, rest_is_there}
use Rattle.event_basis.specs.Laws.{BoundFalls}

module _ (N : Type 0) (image : ImageValue) (view : View) (going : IsOver view → ⊥) where
  -- the least task is idle
  pub next_is_dispatch : (id : ℕ) (task : Task) → IsLeastTask view id task → task.status ≡ Idle
      → IsNextEvent {N = N} image view (event.Dispatch task.tile)
  next_is_dispatch id task least idle = record { goes_on = going; least = (id, task, least, idle, refl) }

  -- it runs
  pub next_is_step : (id core : ℕ) (task : Task) (leg : LegValue) → IsLeastTask view id task
      → task.status ≡ Running core → IsLegFrom image view task leg
      → IsNextEvent {N = N} image view (event.Step task.tile core leg)
  next_is_step id core task leg least runs from =
      record {
        goes_on = going;
        least = record { id = id; task = task; least = least; runs = runs; there = refl; runs_on = from };
      }

  -- it is finished
  pub next_is_commit : (id : ℕ) (task : Task) → IsLeastTask view id task → task.status ≡ Finished
      → IsNextEvent {N = N} image view event.Commit
  next_is_commit id task least finished = record { goes_on = going; least = (id, task, least, finished) }

  -- it is spilled
  pub next_is_split : (tile : ℕ) → IsLeastSpilled view tile → IsNextEvent {N = N} image view (event.Split tile)
  next_is_split tile least = record { goes_on = going; least = least }

-- each event for the least task but its commit brings the bound down by one
pub rest_falls : (N : Type 0) → BoundFalls N
rest_falls N image old new e aborted left sound next no_commit happens bound after has =
    let had = rest_is_there image old.view sound in
    let falls = advances_fall N image old new e aborted had.0 after sound next no_commit happens had.1 has in
    let below = bound had.0 had.1 in
    omega (arith, falls, below)
