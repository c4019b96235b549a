-- When a queued task is the least one.
use Rattle.std.proofs.Common.{◌≡◌, ◌≢◌, ℕ, Some, refl, sym, ap, subst, ◌∙◌, inl, inr, slice_get}
use Rattle.std.proofs.lemmas.Bool.{cases_eq}
use Rattle.std.proofs.lemmas.Cmp.{tied_itself, nat_cmp_total}
use Rattle.std.specs.Ordering.{ordering_then}
use Rattle.std.specs.declared.cmp.Ordering.TheVariants.{Less, Equal, Greater}
use Rattle.fractal_vt.specs.declared.key.Key.{Key}
use Rattle.fractal_vt.specs.Keys.{key_cmp}
use Rattle.fractal_vt.proofs.Proved.{key_cmp_total, then_less}
use Rattle.spill_store.specs.SpilledTasks.{Spilled, open_key}
use Rattle.spec_state.specs.declared.task.Task.{Task}
use Rattle.spec_state.specs.View.{View, task_at, queue_at, block_at}
use Rattle.spec_state.specs.Least.{Spot, Queued, Spilled_at, HasKey, IsQueuedAt, IsLeastTask, ranked_cmp, spot_cmp}
use Rattle.spec_law.specs.Sound.{SoundSizes}
use Rattle.spec_law.proofs.Tasks.Places.{get_contains}
use Rattle.spec_law.proofs.Tasks.Distinct.{distinct_at}
use Rattle.spec_law.proofs.Aborted.Spared.{queued_at}
use Rattle.tile_queues.proofs.Proved.{one_place}

-- a task at its place ties with itself
ranked_self : (key : Key) (tile place : ℕ) → ranked_cmp key (Queued tile place) key (Queued tile place) ≡ Equal
ranked_self key tile place =
    ap (λ o. ordering_then o (spot_cmp (Queued tile place) (Queued tile place))) (tied_itself key_cmp_total key)
    ∙ ap (λ o. ordering_then o (Rattle.std.specs.Ordering.nat_cmp place place)) (tied_itself nat_cmp_total tile)
    ∙ tied_itself nat_cmp_total place

module _ (view : View) (sizes : SoundSizes view) where
  -- a task stands in its own tile alone
  own_tile : (tile place id : ℕ) (task x : Task) → IsQueuedAt view tile place id task → task_at view id ≡ Some x
      → x.tile ≡ tile
  own_tile tile place id task x at there =
      let has = (sizes.queued_are tile id).0 (get_contains (queue_at view tile) place id at.queued) in
      let both : Some has.0 ≡ Some x = sym has.1 ∙ there in
      let same : has.0 ≡ x = cc in
      sym (ap (λ t. t.tile) same) ∙ has.2

  -- and at one place
  own_place : (p q id : ℕ) (x t : Task) (tile : ℕ) → IsQueuedAt view x.tile p id x → IsQueuedAt view tile q id t
      → x.tile ≡ tile → q ≡ p
  own_place p q id x t tile at at' same =
      one_place (queue_at view x.tile) q p id (distinct_at view.settings.task_queue view.queues x.tile sizes.task_queues)
      (subst (λ k. slice_get (queue_at view k) q ≡ Some id) (sym same) at'.queued) at.queued

  -- a queued task that is below all other queued ones, and not above a spilled one, is the least
  pub makes_least : (id : ℕ) (x : Task) → task_at view id ≡ Some x
      → ((k : ℕ) (t : Task) → k ≢ id → task_at view k ≡ Some t → key_cmp x.key t.key ≡ Less)
      → ((tile place : ℕ) (s : Spilled) → slice_get (block_at view tile) place ≡ Some s → key_cmp x.key (open_key s) ≢ Greater)
      → IsLeastTask view id x
  makes_least id x there others spilled =
      record {
        place = spot.0;
        queued_at = spot.1;
        least = record { key = x.key; has = (id, x, spot.1, refl); least = by_spot };
      }
    where
      spot : (place : ℕ) × IsQueuedAt view x.tile place id x
      spot = queued_at view sizes id x there

      by_spot : (other : Spot) (key : Key) → HasKey view other key
          → ranked_cmp x.key (Queued x.tile (queued_at view sizes id x there).0) key other ≢ Greater
      by_spot (Queued tile place) key has = λ greater. elim (cases_eq has.0 id) [
        | inl same ↦
            let at : IsQueuedAt view tile place id has.1 = subst (λ k. IsQueuedAt view tile place k has.1) same has.2 in
            let both : Some has.1 ≡ Some x = sym at.there ∙ there in
            let task : has.1 ≡ x = cc in
            let key_is : key ≡ x.key = has.3 ∙ ap (λ t. t.key) task in
            let tile_is : x.tile ≡ tile = own_tile tile place id has.1 x at there in
            let place_is : place ≡ (queued_at view sizes id x there).0 = own_place (queued_at view sizes id x there).0 place id x has.1 tile (queued_at view sizes id x there).1 at tile_is in
            let whole : ranked_cmp x.key (Queued x.tile (queued_at view sizes id x there).0) key (Queued tile place) ≡ Equal =
            (λ i. ranked_cmp x.key (Queued x.tile (queued_at view sizes id x there).0) (key_is i) (Queued (sym tile_is i) (place_is i)))
            ∙ ranked_self x.key x.tile (queued_at view sizes id x there).0
            in
            absurd (cc (sym whole ∙ greater))
        | inr other ↦
            let less : key_cmp x.key key ≡ Less = ap (key_cmp x.key) has.3 ∙ others has.0 has.1 other has.2.there in
            absurd (cc (sym (ap (λ o. ordering_then o (spot_cmp (Queued x.tile (queued_at view sizes id x there).0) (Queued tile place))) less) ∙ greater))
      ]
      by_spot (Spilled_at tile place) key has =
          then_less (key_cmp x.key key) (subst (λ k. key_cmp x.key k ≢ Greater) (sym has.2) (spilled tile place has.0 has.1))
