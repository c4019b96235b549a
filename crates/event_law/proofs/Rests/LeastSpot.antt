-- Each view has a spot whose task is the least uncommitted one, or no task is uncommitted.
use Rattle.std.proofs.Common.{ℕ, ◌≡◌, ◌⊎◌, inl, inr, length, Option, Some, None, refl, sym, ap, subst, ◌∙◌, slice_get}
use Rattle.std.proofs.lemmas.Cmp.{nat_cmp_total, on_total, then_total}
use Rattle.std.proofs.lemmas.Option.{slice_get_within}
use Rattle.std.specs.Cmp.{IsTotalOrder}
use Rattle.std.specs.Ordering.{nat_cmp, on, then_cmp}
use Rattle.std.specs.declared.cmp.Ordering.{Ordering}
use Rattle.fractal_vt.specs.declared.key.Key.{Key}
use Rattle.fractal_vt.proofs.Proved.{key_cmp_total, greater_not}
use Rattle.spill_store.specs.SpilledTasks.{Spilled, open_key}
use Rattle.event_def.specs.spec_state.declared.task.Task.{Task}
use Rattle.event_def.specs.spec_state.View.{View, task_at, queue_at, block_at}
use Rattle.event_def.specs.spec_state.Least.{Spot, Queued, Spilled_at, HasKey, IsAllCommitted, IsLeastSpot, ranked_cmp}
use Rattle.event_def.specs.spec_state.Least.{spot_cmp}
use Rattle.event_def.proofs.Below.spec_state.Proved.{at_within}
use Rattle.event_law.proofs.Search.{HasLeast, IsBelow, only_one, either_least, search}

-- the kind of a spot: queued ones come first
abbrev kind_of : Spot → ℕ
kind_of (Queued tile place) = 0
kind_of (Spilled_at tile place) = 1

-- its tile
abbrev tile_of : Spot → ℕ
tile_of (Queued tile place) = tile
tile_of (Spilled_at tile place) = tile

-- its place there
abbrev place_of : Spot → ℕ
place_of (Queued tile place) = place
place_of (Spilled_at tile place) = place

-- spots are compared by kind, by tile and by place
abbrev parts_cmp : Spot → Spot → Ordering
parts_cmp = then_cmp (on kind_of nat_cmp) (then_cmp (on tile_of nat_cmp) (on place_of nat_cmp))

-- which is what they are compared by
same_cmp : (a b : Spot) → parts_cmp a b ≡ spot_cmp a b
same_cmp (Queued t p) (Queued u q) = refl
same_cmp (Queued t p) (Spilled_at u q) = refl
same_cmp (Spilled_at t p) (Queued u q) = refl
same_cmp (Spilled_at t p) (Spilled_at u q) = refl

-- so spots are in a total order
pub spot_cmp_total : IsTotalOrder spot_cmp
spot_cmp_total =
    subst IsTotalOrder (λ i a b. same_cmp a b i)
    (then_total (on_total kind_of nat_cmp_total) (then_total (on_total tile_of nat_cmp_total) (on_total place_of nat_cmp_total)))

-- a spot, and the key of the task that stands there
pub record Keyed_spot : Type 0 where
  pub spot : Spot
  pub key : Key

-- such are compared as the order of uncommitted tasks does
abbrev pub spots_cmp : Keyed_spot → Keyed_spot → Ordering
spots_cmp x y = ranked_cmp x.key x.spot y.key y.spot

-- and their order is total
pub spots_cmp_total : IsTotalOrder spots_cmp
spots_cmp_total =
    then_total (on_total (λ (x : Keyed_spot). x.key) key_cmp_total) (on_total (λ (x : Keyed_spot). x.spot) spot_cmp_total)

module _ (view : View) where
  -- it is this spot, with the key of the task there
  abbrev IsAt : Spot → Keyed_spot → Type 0
  IsAt spot x = HasKey view spot x.key × (x.spot ≡ spot)

  -- a place of a queue has a task or none
  at_queued : (tile place : ℕ) → HasLeast spots_cmp (IsAt (Queued tile place))
  at_queued tile place = by_id (slice_get (queue_at view tile) place) refl
    where
      by_task : (id : ℕ) → slice_get (queue_at view tile) place ≡ Some id → (o : Option Task) → task_at view id ≡ o
          → HasLeast spots_cmp (IsAt (Queued tile place))
      by_task id queued None none = inl (λ x is.
          let both : Some is.0.0 ≡ Some id = sym is.0.2.queued ∙ queued in
          let same : is.0.0 ≡ id = cc in
          absurd (cc (sym none ∙ ap (task_at view) (sym same) ∙ is.0.2.there)))
      by_task id queued (Some task) there =
          only_one spots_cmp spots_cmp_total (IsAt (Queued tile place)) (record { spot = Queued tile place; key = task.key })
          ((id, task, record { queued = queued; there = there }, refl), refl)
          (λ x is.
          let both : Some is.0.0 ≡ Some id = sym is.0.2.queued ∙ queued in
          let same : is.0.0 ≡ id = cc in
          let tasks : Some is.0.1 ≡ Some task = sym is.0.2.there ∙ ap (task_at view) same ∙ there in
          let one : is.0.1 ≡ task = cc in
          let keys : x.key ≡ task.key = is.0.3 ∙ ap (λ (t : Task). t.key) one in
          (λ i. record { spot = is.1 i; key = keys i }))

      by_id : (o : Option ℕ) → slice_get (queue_at view tile) place ≡ o → HasLeast spots_cmp (IsAt (Queued tile place))
      by_id None none = inl (λ x is. absurd (cc (sym none ∙ is.0.2.queued)))
      by_id (Some id) queued = by_task id queued (task_at view id) refl

  -- a place of a block has a task or none
  at_spilled : (tile place : ℕ) → HasLeast spots_cmp (IsAt (Spilled_at tile place))
  at_spilled tile place = by_spilled (slice_get (block_at view tile) place) refl
    where
      by_spilled : (o : Option Spilled) → slice_get (block_at view tile) place ≡ o
          → HasLeast spots_cmp (IsAt (Spilled_at tile place))
      by_spilled None none = inl (λ x is. absurd (cc (sym none ∙ is.0.1)))
      by_spilled (Some s) at =
          only_one spots_cmp spots_cmp_total (IsAt (Spilled_at tile place)) (record { spot = Spilled_at tile place; key = open_key s }) ((s, at, refl), refl)
          (λ x is.
          let both : Some is.0.0 ≡ Some s = sym is.0.1 ∙ at in
          let one : is.0.0 ≡ s = cc in
          let keys : x.key ≡ open_key s = is.0.2 ∙ ap open_key one in
          (λ i. record { spot = is.1 i; key = keys i }))

  -- it stands in the queue of this tile
  abbrev InQueue : ℕ → Keyed_spot → Type 0
  InQueue tile = IsBelow (λ place. IsAt (Queued tile place)) (length (queue_at view tile))

  -- it stands in the block of this tile
  abbrev InBlock : ℕ → Keyed_spot → Type 0
  InBlock tile = IsBelow (λ place. IsAt (Spilled_at tile place)) (length (block_at view tile))

  -- it stands in some queue or block
  abbrev IsThere : Keyed_spot → Type 0
  IsThere x = IsBelow InQueue (length view.queues) x ⊎ IsBelow InBlock (length view.blocks) x

  -- each task stands there
  among : (spot : Spot) (key : Key) → HasKey view spot key → IsThere (record { spot = spot; key = key })
  among (Queued tile place) key has =
      inl (tile, at_within view.queues tile place has.0 has.2.queued, (place, slice_get_within (queue_at view tile) place has.0 has.2.queued, (has, refl)))
  among (Spilled_at tile place) key has =
      inr (tile, at_within view.blocks tile place has.0 has.1, (place, slice_get_within (block_at view tile) place has.0 has.1, (has, refl)))

  -- and what stands there is a task
  of : (x : Keyed_spot) → IsThere x → HasKey view x.spot x.key
  of x (inl queued) = let is = queued.2.2 in subst (λ spot. HasKey view spot x.key) (sym is.1) is.0
  of x (inr spilled) = let is = spilled.2.2 in subst (λ spot. HasKey view spot x.key) (sym is.1) is.0

  -- of what stands there one is the least, or nothing stands there, as the places are finitely many
  least_there : HasLeast spots_cmp IsThere
  least_there =
      either_least spots_cmp spots_cmp_total (IsBelow InQueue (length view.queues)) (IsBelow InBlock (length view.blocks))
      (search spots_cmp spots_cmp_total InQueue
      (λ tile. search spots_cmp spots_cmp_total (λ place. IsAt (Queued tile place)) (at_queued tile) (length (queue_at view tile))) (length view.queues))
      (search spots_cmp spots_cmp_total InBlock
      (λ tile. search spots_cmp spots_cmp_total (λ place. IsAt (Spilled_at tile place)) (at_spilled tile) (length (block_at view tile))) (length view.blocks))

  -- so no task is uncommitted, or one is the least
  pub least_spot : IsAllCommitted view ⊎ ((spot : Spot) × IsLeastSpot view spot)
  least_spot = elim least_there [
    | inl none ↦ inl (λ spot key has. none (record { spot = spot; key = key }) (among spot key has))
    | inr low ↦ inr (
      low.one.spot,
      record {
        key = low.one.key;
        has = of low.one low.is;
        least =
            λ spot key has. greater_not (ranked_cmp low.one.key low.one.spot key spot) (low.low (record { spot = spot; key = key }) (among spot key has));
      },
    )
  ]
