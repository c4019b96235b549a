-- Where a number is made free, the least idle task of a tile and its free cores are what they were.
use Rattle.std.proofs.Common.{◌≡◌, ℕ, sym, ap, subst, ◌∙◌, slice_get}
use Rattle.std.specs.Prelude.{Contains}
use Rattle.std.specs.Ordering.{ordering_then}
use Rattle.fractal_vt.specs.Keys.{key_cmp}
use Rattle.fractal_vt.proofs.Proved.{keeps_order}
use Rattle.spec_state.specs.declared.task.Task.{Task}
use Rattle.spec_state.specs.View.{View, queue_at}
use Rattle.spec_state.specs.Least.{IsQueuedAt, Precedes, Queued, spot_cmp}
use Rattle.spec_state.specs.Numbers.{FreesNumber, Renumbers, has_free, renumbers, renumbered_task}
use Rattle.spec_state.specs.Queries.{IsIdle, IsLeastIdle, IsFreeCore}
use Rattle.spec_state.proofs.Proved.{table_holds_task}
use Rattle.spec_dispatch.proofs.Renumbers.{now, was}

module _ (old new : View) (r : Renumbers old new) where
  same_queue : (tile : ℕ) → queue_at new tile ≡ queue_at old tile
  same_queue tile = ap (λ v. queue_at v tile) r.frame

  -- where a task stands it stood, but for its numbers
  stood : (tile place id : ℕ) (x : Task) → IsQueuedAt new tile place id x
      → (w : Task) × IsQueuedAt old tile place id w × (x ≡ renumbered_task r.table w)
  stood tile place id x at =
      let one = was old new r id x at.there in
      (one.0, record { queued = ap (λ ids. slice_get ids place) (sym (same_queue tile)) ∙ at.queued; there = one.1 }, one.2)

  -- and it comes before those before which it came
  precedes : (tile a b : ℕ) → Precedes old tile a b → Precedes new tile a b
  precedes tile a b before p q x y here there =
      let one = stood tile p a x here in
      let other = stood tile q b y there in
      let order = keeps_order r.table one.0.key other.0.key (table_holds_task old r.table r.is_table a one.0 one.1.there) (table_holds_task old r.table r.is_table b other.0 other.1.there) in
      (λ i. ordering_then (key_cmp (one.2 i).key (other.2 i).key) (spot_cmp (Queued tile p) (Queued tile q)))
      ∙ ap (λ o. ordering_then o (spot_cmp (Queued tile p) (Queued tile q))) order
      ∙ before p q one.0 other.0 one.1 other.1

  idle_was : (tile id : ℕ) (x : Task) → IsIdle new tile id x → (w : Task) × IsIdle old tile id w
  idle_was tile id x is =
      let one = was old new r id x is.there in (
        one.0,
        record {
          queued = subst (λ ids. Contains ids id) (same_queue tile) is.queued;
          there = one.1;
          idle = sym (ap (λ t. t.status) one.2) ∙ is.idle;
        },
      )

  least_renumbered : (tile id : ℕ) (task : Task) → IsLeastIdle old tile id task
      → IsLeastIdle new tile id (renumbered_task r.table task)
  least_renumbered tile id task least = record {
    idle = record {
      queued = subst (λ ids. Contains ids id) (sym (same_queue tile)) least.idle.queued;
      there = now old new r id task least.idle.there;
      idle = least.idle.idle;
    };
    least =
        λ k x other idle. (let one = idle_was tile k x idle in precedes tile id k (least.least k one.0 other one.1));
  }

abbrev pub HasLeastIdle : View → ℕ → ℕ → Type 0
HasLeastIdle view tile id = (task : Task) × IsLeastIdle view tile id task

-- the least idle task is still the least one
pub least_still : (old new : View) (tile id : ℕ) → FreesNumber old new → HasLeastIdle old tile id
    → HasLeastIdle new tile id
least_still old new tile id (has_free low) least = least
least_still old new tile id (renumbers after high r) least =
    (renumbered_task r.table least.0, least_renumbered old new r tile id least.0 least.1)

-- a free core is still free
pub free_still : (old new : View) (tile core : ℕ) → FreesNumber old new → IsFreeCore old tile core
    → IsFreeCore new tile core
free_still old new tile core (has_free low) free = free
free_still old new tile core (renumbers after high r) free = subst (λ v. IsFreeCore v tile core) (sym r.frame) free
