-- A task that comes to be, idle and above the heir, leaves the heir the heir, and makes none where there was none.
use Rattle.std.proofs.Common.{◌≡◌, ◌⊎◌, ◌<◌, ℕ, true, length, Option, Some, None, refl, sym, ap, subst, ◌∙◌, inl, inr}
use Rattle.std.proofs.Common.{slice_get}
use Rattle.std.specs.Ordering.{ordering_then}
use Rattle.std.specs.declared.cmp.Ordering.TheVariants.{Less}
use Rattle.fractal_vt.specs.declared.key.Key.{Key}
use Rattle.fractal_vt.specs.Keys.{key_cmp}
use Rattle.spec_state.specs.declared.task.Task.{Task}
use Rattle.spec_state.specs.View.{View, task_at, queue_at}
use Rattle.spec_state.specs.Tasks.{idle_again, is_dispatched}
use Rattle.spec_state.specs.Least.{Spot, Queued, Spilled_at, HasKey, IsHeir, IsLeastTask, spot_cmp}
use Rattle.spec_state.specs.Opening.{Adds}
use Rattle.spec_state.proofs.Proved.{is_new, still_there, was_there}
use Rattle.spec_law.proofs.Adds.One.{added_to, place_stays, place_was, runs_was}
use Rattle.spec_law.proofs.Aborted.Spared.{least_key}
use Rattle.std.proofs.lemmas.Bool.{cases_eq}

module _ (old new : View) (id : ℕ) (task : Task) (adds : Adds id task old new) (within : task.tile < length old.queues) where
  abbrev now : View
  now = added_to old new

  -- each spot has its key still
  forth : (spot : Spot) (key : Key) → HasKey old spot key → HasKey now spot key
  forth (Queued tile place) key (k, x, at, is) =
      (k, x, record { queued = place_stays old new id task adds within tile place k at.queued; there = still_there old new id task adds k x at.there }, is)
  forth (Spilled_at tile place) key has = has

  -- each spot had its key, or it is that of the new task
  back : (spot : Spot) (key : Key) → HasKey now spot key → HasKey old spot key ⊎ (key ≡ task.key)
  back (Queued tile place) key (k, t, at, is) = elim (cases_eq k id) [
    | inl same ↦ inr (is ∙ ap (λ x. x.key) (is_new old new id task adds k t same at.there))
    | inr other ↦ elim (place_was old new id task adds within tile place k at.queued) [
      | inl was ↦ inl (k, t, record { queued = was; there = was_there old new id task adds k t other at.there }, is)
      | inr same ↦ absurd (other same)
    ]
  ]
  back (Spilled_at tile place) key has = inl has

  -- the least task is it still, where its key is below that of the new one
  stays_least : (h : ℕ) (x : Task) → key_cmp x.key task.key ≡ Less → IsLeastTask old h x → IsLeastTask now h x
  stays_least h x above least =
      record {
        place = least.place;
        queued_at = record {
          queued = place_stays old new id task adds within x.tile least.place h least.queued_at.queued;
          there = still_there old new id task adds h x least.queued_at.there;
        };
        least = record {
          key = least.least.key;
          has = forth (Queued x.tile least.place) least.least.key least.least.has;
          least = λ other key has greater. elim (back other key has) [
            | inl was ↦ least.least.least other key was greater
            | inr new_key ↦
                let less : key_cmp least.least.key key ≡ Less = ap (λ k. key_cmp k key) (least_key old h x least) ∙ ap (key_cmp x.key) new_key ∙ above in
                absurd (cc (sym (ap (λ o. ordering_then o (spot_cmp (Queued x.tile least.place) other)) less), greater))
          ];
        };
      }

  -- a dispatched least task was the least one before
  was_least : task ≡ idle_again old.version task → (k : ℕ) (t : Task) → IsLeastTask now k t → is_dispatched t ≡ true
      → IsLeastTask old k t
  was_least idle k t least runs =
      record {
        place = least.place;
        queued_at = record { queued = stood; there = was };
        least = record {
          key = least.least.key;
          has = (k, t, record { queued = stood; there = was }, least_key now k t least);
          least = λ other key has. least.least.least other key (forth other key has);
        };
      }
    where
      was : task_at old k ≡ Some t
      was = runs_was old new id task adds idle k t least.queued_at.there runs

      stood : slice_get (queue_at old t.tile) least.place ≡ Some k
      stood = elim (place_was old new id task adds within t.tile least.place k least.queued_at.queued) [
        | inl at ↦ at
        | inr same ↦ absurd (cc (was, ap (task_at old) same, adds.vacant))
      ]

  kept : (heir : Option ℕ) → task ≡ idle_again old.version task
      → ((h : ℕ) (x : Task) → heir ≡ Some h → task_at old h ≡ Some x → key_cmp x.key task.key ≡ Less) → IsHeir old heir
      → IsHeir now heir
  kept (Some h) idle above (x, least, runs) = (x, stays_least h x (above h x refl least.queued_at.there) least, runs)
  kept None idle above none = λ k t least runs. none k t (was_least idle k t least runs) runs

  pub add_keeps_heir : (heir : Option ℕ) → task ≡ idle_again old.version task
      → ((h : ℕ) (x : Task) → heir ≡ Some h → task_at old h ≡ Some x → key_cmp x.key task.key ≡ Less)
      → IsHeir old heir → IsHeir new heir
  add_keeps_heir heir idle above is = subst (λ v. IsHeir v heir) (sym adds.frame) (kept heir idle above is)
