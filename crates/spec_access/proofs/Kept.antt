-- What one changed task leaves of where tasks are and of what they are by themselves.
use Rattle.std.proofs.Common.{◌≡◌, ℕ, length, true, Some, sym, ap, subst, ◌∙◌, inl, inr}
use Rattle.std.specs.Prelude.{is_some}
use Rattle.std.proofs.lemmas.Bool.{cases_eq}
use Rattle.std.proofs.lemmas.Option.{same_Some}
use Rattle.rv_core.specs.declared.state.Core.{Core}
use Rattle.spec_dispatch.specs.spec_state.declared.task.Status.{Status}
use Rattle.spec_dispatch.specs.spec_state.declared.task.Status.TheVariants.{Running}
use Rattle.spec_dispatch.specs.spec_state.declared.task.Task.{Task}
use Rattle.spec_dispatch.specs.spec_state.View.{View, task_at, ChangesTask}
use Rattle.spec_dispatch.specs.spec_state.Tasks.{kept_core}
use Rattle.spec_dispatch.specs.spec_state.Stored.{HasTask, IsWellFormed, IsStored}

module _ (id : ℕ) (old new : View) (task now : Task) (there : task_at old id ≡ Some task)
    (changes : ChangesTask old new id (Some now)) where
  -- where each task was, it is
  pub place_forth : (kind : Status → Type 0) (tile k : ℕ) → now.tile ≡ task.tile
      → (kind task.status → kind now.status) → HasTask old tile k kind → HasTask new tile k kind
  place_forth kind tile k same forth has = elim (cases_eq k id) [
    | inl own ↦
        let it : has.0 ≡ task = same_Some has.0 task (sym has.1 ∙ ap (task_at old) own ∙ there) in (
          now,
          ap (task_at new) own ∙ changes.changed,
          same ∙ ap (λ t. t.tile) (sym it)
              ∙ has.2,
          forth (subst (λ t. kind t.status) it has.3),
        )
    | inr other ↦ (has.0, changes.others k other ∙ has.1, has.2, has.3)
  ]

  pub place_back : (kind : Status → Type 0) (tile k : ℕ) → now.tile ≡ task.tile
      → (kind now.status → kind task.status) → HasTask new tile k kind → HasTask old tile k kind
  place_back kind tile k same back has = elim (cases_eq k id) [
    | inl own ↦
        let it : has.0 ≡ now = same_Some has.0 now (sym has.1 ∙ ap (task_at new) own ∙ changes.changed) in (
          task,
          ap (task_at old) own ∙ there,
          sym same ∙ ap (λ t. t.tile) (sym it)
              ∙ has.2,
          back (subst (λ t. kind t.status) it has.3),
        )
    | inr other ↦ (has.0, sym (changes.others k other) ∙ has.1, has.2, has.3)
  ]

  module _ (size : ℕ) (stored : IsStored size old) (formed : IsWellFormed size (length old.history) now) where
    pub formed_all : (k : ℕ) (t : Task) → task_at new k ≡ Some t → IsWellFormed size (length old.history) t
    formed_all k t at = elim (cases_eq k id) [
      | inl own ↦
          let it : now ≡ t = same_Some now t (sym changes.changed ∙ ap (task_at new) (sym own) ∙ at) in
          subst (IsWellFormed size (length old.history)) it formed
      | inr other ↦ stored.tasks k t (sym (changes.others k other) ∙ at)
    ]

-- a running task keeps a core, as a trapped one and a finished one do
pub running_has : (status : Status) (held : ℕ) (core : Core) → status ≡ Running held
    → true ≡ is_some (kept_core status core)
running_has status held core runs = ap (λ s. is_some (kept_core s core)) (sym runs)
