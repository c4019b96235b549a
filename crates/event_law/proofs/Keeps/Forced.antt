-- Sound views with the settings of others; the heir of a sound view; a running task that is spared takes its leg still.
use Rattle.std.proofs.Common.{ℕ, ◌≡◌, true, false, Some, refl, sym, ap, subst, ◌∙◌}
use Rattle.guest_image.specs.ImageValue.{ImageValue}
use Rattle.rv_core.specs.LegValue.{LegValue, IsLegOfImage}
use Rattle.event_def.specs.spec_state.declared.task.Status.{Status}
use Rattle.event_def.specs.spec_state.declared.task.Status.TheVariants.{Idle, Running}
use Rattle.event_def.specs.spec_state.declared.task.Task.{Task}
use Rattle.event_def.specs.spec_state.View.{View, task_at}
use Rattle.event_def.specs.spec_state.Tasks.{is_dispatched}
use Rattle.event_def.specs.spec_state.Least.{IsHeir, IsLeastTask}
use Rattle.event_def.specs.spec_state.Aborts.{Aborts, is_marked}
use Rattle.event_def.specs.spec_state.Stored.{HasCore}
use Rattle.spec_law.specs.Sound.{Sound, StandsAs}
use Rattle.spec_law.specs.Keeping.{IsLegOf}
use Rattle.spec_law.proofs.Proved.{heirs_are_one, unmarked_stays}

-- a sound view with the settings of another
pub record Follows (image : ImageValue) (old mid : View) : Type 0 where
  pub now : Sound image mid
  pub settings : mid.settings ≡ old.settings

module _ (image : ImageValue) (old : View) (sound : Sound image old) where
  -- an idle task is not dispatched
  pub idle_is_open : (id : ℕ) (task : Task) → task_at old id ≡ Some task → task.status ≡ Idle
      → is_dispatched task ≡ false
  idle_is_open id task there idle =
      let stands : StandsAs image old.version old.settings.budget task Idle = subst (StandsAs image old.version old.settings.budget task) idle (sound.tasks.stands id task there) in
      ap is_dispatched stands

  -- a running one is
  pub running_is_dispatched : (id core : ℕ) (task : Task) → task_at old id ≡ Some task → task.status ≡ Running core
      → is_dispatched task ≡ true
  running_is_dispatched id core task there runs =
      let stands : StandsAs image old.version old.settings.budget task (Running core) = subst (StandsAs image old.version old.settings.budget task) runs (sound.tasks.stands id task there) in
      stands.0

  -- the least task, where it is dispatched, is the heir
  pub least_is_heir : (id : ℕ) (task : Task) → IsLeastTask old id task → is_dispatched task ≡ true
      → sound.heir ≡ Some id
  least_is_heir id task least dispatched = heirs_are_one old sound.heir id sound.is_heir (task, least, dispatched)

  -- and the heir is the least task
  pub heir_is : (id : ℕ) → sound.heir ≡ Some id → IsHeir old (Some id)
  heir_is id same = subst (IsHeir old) same sound.is_heir

  -- a sound view follows itself
  pub follows_itself : Follows image old old
  follows_itself = record { now = sound; settings = refl }

  -- a running task that stays as it was takes the leg still
  pub still_taken : (mid : View) (tile core id : ℕ) (leg : LegValue) (task : Task) → Follows image old mid
      → task_at mid id ≡ Some task
      → IsLegOf image old tile core leg id task → IsLegOf image mid tile core leg id task
  still_taken mid tile core id leg task follows there taken =
      let runs = taken.takes.runs in
      let has = (sound.sizes.held_are tile core id).0 runs.on.held in
      let both : Some has.0 ≡ Some task = sym has.1 ∙ runs.on.there in
      let same : has.0 ≡ task = cc in
      let tile_is : task.tile ≡ tile = ap (λ t. t.tile) (sym same) ∙ has.2 in
      let holds : HasCore task.status core = subst (λ (s : Status). HasCore s core) (sym runs.running) refl in
      record {
        takes = record {
          runs =
              record {
                on = record { held = (follows.now.sizes.held_are tile core id).1 (task, there, tile_is, holds); there = there };
                running = runs.running;
              };
          from = taken.takes.from;
        };
        run = subst (λ s. IsLegOfImage image s.budget leg) (sym follows.settings) taken.run;
      }

-- what an abort leaves follows, where it is sound
pub abort_follows : (image : ImageValue) (firsts : ℕ → Type 0) (old mid : View) (aborted : ℕ)
    → Aborts firsts old aborted mid → Sound image mid → Follows image old mid
abort_follows image firsts old mid aborted aborts now =
    record { now = now; settings = ap (λ view. view.settings) aborts.frame }

-- an unmarked task stays as it was
pub spared_stays : (firsts : ℕ → Type 0) (old mid : View) (aborted id : ℕ) (aborts : Aborts firsts old aborted mid)
    → is_marked aborts.marks id ≡ false
    → task_at mid id ≡ task_at old id
spared_stays firsts old mid aborted id aborts unmarked = unmarked_stays aborts id unmarked
