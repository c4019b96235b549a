-- A least task that is finished is the heir, and the only one.
use Rattle.std.proofs.Common.{◌≡◌, ℕ, true, Option, Some, None, refl, sym, ap, subst, ◌∙◌, inr}
use Rattle.std.specs.Prelude.{is_some}
use Rattle.std.proofs.lemmas.Option.{same_Some}
use Rattle.spec_state.specs.declared.task.Creator.TheVariants.{Live}
use Rattle.spec_state.specs.declared.task.Status.TheVariants.{Finished}
use Rattle.spec_state.specs.declared.task.Task.{Task}
use Rattle.spec_state.specs.View.{View}
use Rattle.spec_state.specs.Tasks.{is_dispatched, kept_core}
use Rattle.spec_state.specs.Least.{IsLeastTask, IsHeir}
use Rattle.spec_state.specs.Stored.{IsStored}
use Rattle.spec_state.proofs.Proved.{by_firm}

module _ (size : ℕ) (view : View) (stored : IsStored size view) where
  -- it is dispatched
  runs : (a : ℕ) (task : Task) → IsLeastTask view a task → task.status ≡ Finished → is_dispatched task ≡ true
  runs a task least finished =
      (stored.tasks a task least.queued_at.there).dispatched ∙ ap (λ s. is_some (kept_core s task.core)) finished

  -- so it is the heir, as a child of it would be firm
  pub heir_is : (a : ℕ) (task : Task) → IsLeastTask view a task → task.status ≡ Finished
      → (heir : Option ℕ) → IsHeir view heir → heir ≡ Some a
  heir_is a task least finished heir is =
      by_firm view heir (record task { creator = Live (record { 0 = a }) 0 }) is
      (inr (a, 0, refl, (task, least, runs a task least finished)))

  -- there is one
  pub has_heir : (a : ℕ) (task : Task) → IsLeastTask view a task → task.status ≡ Finished → IsHeir view None → ⊥
  has_heir a task least finished none = none a task least (runs a task least finished)

  pub one_finished : (a b : ℕ) (x y : Task) → IsLeastTask view a x → x.status ≡ Finished → IsLeastTask view b y
      → y.status ≡ Finished → b ≡ a
  one_finished a b x y least finished other ended =
      same_Some b a (heir_is a x least finished (Some b) (y, other, runs b y other ended))

  -- which the heir tells
  pub finished_heir : (a b : ℕ) (task : Task) → IsLeastTask view a task → task.status ≡ Finished
      → IsHeir view (Some b) → (x : Task) × IsLeastTask view b x × (x.status ≡ Finished)
  finished_heir a b task least finished is =
      subst (λ k. (x : Task) × IsLeastTask view k x × (x.status ≡ Finished))
      (sym (same_Some b a (heir_is a task least finished (Some b) is))) (task, least, finished)
