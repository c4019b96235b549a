-- All uncommitted tasks by id: the queued ones under their own, and each spilled one under some id behind those.
use Rattle.std.proofs.Common.{◌≡◌, ◌⊎◌, ℕ, ◌+◌, ◌-◌, ◌<◌, Bool, true, false, length, map, Option, Some, None}
use Rattle.std.proofs.Common.{option_map, sym, ap, ◌∙◌, inl, inr, arith, slice_get, if◌then◌else◌, nat_lt}
use Rattle.std.proofs.lemmas.Bool.{cases_lt, lt-ltb}
use Rattle.std.proofs.lemmas.List.{get_or_past}
use Rattle.std.proofs.lemmas.Option.{slice_get-map}
use Rattle.order_law.specs.Tasks.{Keyed}
use Rattle.order_law.proofs.Proved.{high_test}
use Rattle.spill_store.specs.SpilledTasks.{Spilled}
use Rattle.spec_state.specs.declared.task.Task.{Task}
use Rattle.spec_state.specs.View.{View, task_at}
use Rattle.spec_state.specs.Groups.{keyed_tasks, keyed_task, keyed_spilled, all_spilled, all_keyed}
use Rattle.fractal_vt.proofs.Proved.{mapped_some}

-- a task's id is below the number of slots
pub id_below : (view : View) (id : ℕ) (task : Task) → task_at view id ≡ Some task → id < length view.tasks
id_below view id task at = elim (cases_lt id (length view.tasks)) [
  | inl low ↦ low
  | inr past ↦ absurd (cc (get_or_past view.tasks id None past, at))
]

module _ (view : View) (heir : Option ℕ) where
  -- a spilled task, as the order reads it
  abbrev pub spilled_in_keys : Spilled → Keyed
  spilled_in_keys = keyed_spilled (length view.history) heir

  -- a queued task stands under its id
  pub queued_stands : (id : ℕ) (task : Task) → task_at view id ≡ Some task
      → all_keyed view heir id ≡ Some (keyed_task task)
  queued_stands id task at =
      ap (λ b. if b then keyed_tasks view id else slice_get (map spilled_in_keys (all_spilled view)) (id - length view.tasks)) (lt-ltb id (length view.tasks) (id_below view id task at))
      ∙ ap (option_map keyed_task) at

  -- a spilled task stands under some id
  pub spilled_stands : (k : ℕ) (s : Spilled) → slice_get (all_spilled view) k ≡ Some s
      → (id : ℕ) × (all_keyed view heir id ≡ Some (spilled_in_keys s))
  spilled_stands k s at =
      let bound = length view.tasks in
      let same : bound + k - bound ≡ k = omega arith in (
        bound + k,
        ap (λ b. if b then keyed_tasks view (bound + k) else slice_get (map spilled_in_keys (all_spilled view)) (bound + k - bound)) (high_test bound k)
            ∙ ap (slice_get (map spilled_in_keys (all_spilled view))) same
            ∙ slice_get-map spilled_in_keys (all_spilled view) k
            ∙ ap (option_map spilled_in_keys) at,
      )

  -- this queued task stands there
  abbrev pub IsQueuedThere : ℕ → Keyed → Type 0
  IsQueuedThere k x = (task : Task) × (task_at view k ≡ Some task) × (x ≡ keyed_task task)

  -- this is a spilled task, at some place
  abbrev pub IsSpilledThere : Keyed → Type 0
  IsSpilledThere x = (k : ℕ) × (s : Spilled) × (slice_get (all_spilled view) k ≡ Some s) × (x ≡ spilled_in_keys s)

  -- whatever stands under an id is a queued task or a spilled one
  pub which : (k : ℕ) (x : Keyed) → all_keyed view heir k ≡ Some x → IsQueuedThere k x ⊎ IsSpilledThere x
  which k x at = by_test (nat_lt k (length view.tasks)) at
    where
      by_test : (b : Bool)
          → (if b then keyed_tasks view k else slice_get (map spilled_in_keys (all_spilled view)) (k - length view.tasks)) ≡ Some x
          → IsQueuedThere k x ⊎ IsSpilledThere x
      by_test true e = inl (mapped_some keyed_task (task_at view k) x e)
      by_test false e =
          let place = k - length view.tasks in
          let from = mapped_some spilled_in_keys (slice_get (all_spilled view) place) x (sym (slice_get-map spilled_in_keys (all_spilled view) place) ∙ e) in
          inr (place, from.0, from.1, from.2)
