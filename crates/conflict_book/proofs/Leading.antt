-- The event for the least task, by how it stands.
use Rattle.std.proofs.Common.{ℕ, ◌≡◌, ◌≤◌, Some, sym, ap, subst, refl, ◌∙◌}
use Rattle.std.specs.Prelude.{IfSome}
use Rattle.guest_image.specs.ImageValue.{ImageValue}
use Rattle.rv_core.specs.LegValue.{LegValue}
use Rattle.event_step.specs.spec_state.declared.task.Task.{Task}
use Rattle.event_step.specs.spec_state.declared.task.TaskId.{TaskId}
use Rattle.event_step.specs.spec_state.declared.task.Where.TheVariants as where_
use Rattle.event_step.specs.spec_state.Changes.{TakesLeg}
use Rattle.event_step.specs.spec_state.Least.{IsLeast, IsLeastSpilled, IsLeastTask}
use Rattle.event_step.specs.spec_state.Queries.{IsLeastIdle}
use Rattle.event_step.specs.spec_state.View.{View, task_at}
use Rattle.event_step.specs.spec_state.Stored.{HasCore}
use Rattle.event_step.specs.spec_law.Sound.{Sound}
use Rattle.event_step.specs.event_def.declared.event.Event.TheVariants as event
use Rattle.event_step.specs.event_def.Advancing.{IsLegFrom, IsNextEvent}
use Rattle.event_step.specs.event_def.End.{IsOver}
use Rattle.event_step.proofs.Below.event_law.Proved.{running_within}
use Rattle.event_step.proofs.Below.event_basis.Proved.{least_idle, next_is_commit, next_is_dispatch, next_is_split}
use Rattle.event_step.proofs.Below.event_basis.Proved.{next_is_step}

-- the tile that is read of the task of this id
abbrev pub ReadsTile : View → TaskId → ℕ → Type 0
ReadsTile view id tile = IfSome (task_at view id.0) (λ t. tile ≡ t.tile)

pub tile_is : (view : View) (id : TaskId) (tile : ℕ) (task : Task) → task_at view id.0 ≡ Some task
    → ReadsTile view id tile → tile ≡ task.tile
tile_is view id tile task there read = subst (λ o. IfSome o (λ (t : Task). tile ≡ t.tile)) there read

-- a running least task has used its budget at most
pub runs_within : (image : ImageValue) (view : View) (id : TaskId) → Sound image view → IsLeast view (where_.Running id)
    → (task : Task)
    → task_at view id.0 ≡ Some task → task.core.used ≤ view.settings.budget
runs_within image view id sound is task there =
    let both : Some is.0 ≡ Some task = sym is.2.queued_at.there ∙ there in
    let same : is.0 ≡ task = cc in
    running_within image view sound id.0 is.1 task there (ap (λ (t : Task). t.status) (sym same) ∙ is.3)

module _ (N : Type 0) (image : ImageValue) (view : View) (sound : Sound image view) (going : IsOver view → ⊥) where
  -- it is idle
  pub next_dispatch : (id : TaskId) (tile : ℕ) → IsLeast view (where_.Idle id) → ReadsTile view id tile
      → IsNextEvent {N = N} image view (event.Dispatch tile)
  next_dispatch id tile is read =
      subst (λ t. IsNextEvent {N = N} image view (event.Dispatch t)) (sym (tile_is view id tile is.0 is.1.queued_at.there read))
      (next_is_dispatch N image view going id.0 is.0 is.1 is.2)

  pub dispatch_is_idle : (id : TaskId) (tile : ℕ) → IsLeast view (where_.Idle id) → ReadsTile view id tile
      → (task : Task) × IsLeastIdle view tile id.0 task
  dispatch_is_idle id tile is read =
      (is.0, subst (λ t. IsLeastIdle view t id.0 is.0) (sym (tile_is view id tile is.0 is.1.queued_at.there read)) (least_idle image view id.0 is.0 sound is.1 is.2))

  -- it runs
  module _ (id : TaskId) (is : IsLeast view (where_.Running id)) where
    module _ (tile : ℕ) (leg : LegValue) (read : ReadsTile view id tile) (from : (task : Task) → IsLeastTask view id.0 task → IsLegFrom image view task leg) where
      pub next_step : IsNextEvent {N = N} image view (event.Step tile is.1 leg)
      next_step =
          subst (λ t. IsNextEvent {N = N} image view (event.Step t is.1 leg)) (sym (tile_is view id tile is.0 is.2.queued_at.there read))
          (next_is_step N image view going id.0 is.1 is.0 leg is.2 is.3 (from is.0 is.2))

      pub step_takes : TakesLeg view tile is.1 leg id.0 is.0
      step_takes =
          let there = is.2.queued_at.there in
          let in_tile = sym (tile_is view id tile is.0 there read) in
          let held = (sound.sizes.held_are tile is.1 id.0).1 (is.0, there, in_tile, subst (λ status. HasCore status is.1) (sym is.3) refl) in
          record {
            runs = record { on = record { held = held; there = there }; running = is.3 };
            from = sym (from is.0 is.2).from;
          }

  -- it is finished
  pub next_commit : (id : TaskId) → IsLeast view (where_.Finished id) → IsNextEvent {N = N} image view event.Commit
  next_commit id is = next_is_commit N image view going id.0 is.0 is.1 is.2

  -- it is spilled
  pub next_split : (tile : ℕ) → IsLeastSpilled view tile → IsNextEvent {N = N} image view (event.Split tile)
  next_split tile is = next_is_split N image view going tile is
