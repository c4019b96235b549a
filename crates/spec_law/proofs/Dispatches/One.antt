-- The task that is dispatched: it was idle and had done nothing, and all others stay.
use Rattle.std.proofs.Common.{◌≡◌, ◌≢◌, ◌⊎◌, ◌+◌, ℕ, Option, Some, sym, ap, subst, ◌∙◌, inl, inr}
use Rattle.std.proofs.lemmas.Bool.{cases_eq}
use Rattle.guest_image.specs.ImageValue.{ImageValue}
use Rattle.spec_state.specs.serial_machine.State.{SerialState}
use Rattle.spec_state.specs.declared.task.Status.TheVariants as status
use Rattle.spec_state.specs.declared.task.Task.{Task}
use Rattle.spec_state.specs.View.{View, task_at}
use Rattle.spec_state.specs.Tasks.{idle_again, start_core}
use Rattle.spec_state.specs.Changes.{Dispatches, with_core}
use Rattle.spec_law.specs.Sound.{StandsAs, SoundTasks}

-- the task once it is dispatched to this core
abbrev pub started : ℕ → ℕ → ℕ → Task → Task
started version next core task =
    record task { key = record task.key { tb = Some next }; status = status.Running core; core = start_core version task }

module _ (old new : View) (tile : ℕ) (d : Dispatches tile old new) where
  -- the view after the dispatch
  abbrev pub after : View
  after = record old { tasks = new.tasks; next = old.next + 1; cores = with_core old tile d.core (Some d.id) }

  -- the new view is that one
  pub is_after : new ≡ after
  is_after = d.frame ∙ (λ i. record old { tasks = new.tasks; next = d.next i; cores = d.cores i })

  -- the task as it is then
  abbrev pub now : Task
  now = started old.version old.next d.core d.task

  -- the task as it was
  pub was : task_at old d.id ≡ Some d.task
  was = d.least.idle.there

  -- a task of this id was this one
  pub was_this : (k : ℕ) (t : Task) → k ≡ d.id → task_at old k ≡ Some t → t ≡ d.task
  was_this k t same there = let both : Some t ≡ Some d.task = sym there ∙ ap (task_at old) same ∙ was in cc

  -- it had done nothing
  pub was_idle : (image : ImageValue) (heir : Option ℕ) (serial : SerialState) → SoundTasks image old heir serial
      → d.task ≡ idle_again old.version d.task
  was_idle image heir serial tasks =
      subst (StandsAs image old.version old.settings.budget d.task) d.least.idle.idle (tasks.stands d.id d.task was)

  -- each task is the dispatched one, or was there
  pub which : (k : ℕ) (t : Task) → task_at new k ≡ Some t
      → ((k ≡ d.id) × (t ≡ now)) ⊎ ((k ≢ d.id) × (task_at old k ≡ Some t))
  which k t at = elim (cases_eq k d.id) [
    | inl same ↦ let both : Some t ≡ Some now = sym at ∙ ap (task_at new) same ∙ d.changes.changed in let eq : t ≡ now = cc in inl (same, eq)
    | inr other ↦ inr (other, sym (d.changes.others k other) ∙ at)
  ]

  -- what holds of all tasks that were there, and of the dispatched one, holds of all
  pub each_after : (holds : ℕ → Task → Type 0) → holds d.id now
      → ((k : ℕ) (t : Task) → k ≢ d.id → task_at old k ≡ Some t → holds k t)
      → (k : ℕ) (t : Task) → task_at new k ≡ Some t → holds k t
  each_after holds this others k t at = elim (which k t at) [
    | inl here ↦ subst (λ j. holds j t) (sym here.0) (subst (holds d.id) (sym here.1) this)
    | inr there ↦ others k t there.0 there.1
  ]
