-- Where a tile has an idle task, it has a least one.
use Rattle.std.proofs.Common.{ℕ, zero, suc, ◌≡◌, ◌≢◌, ◌<◌, ◌⊎◌, inl, inr, Option, Some, None, refl, sym, ap, subst, ◌∙◌}
use Rattle.std.proofs.Common.{arith}
use Rattle.std.specs.Prelude.{length, slice_get}
use Rattle.std.specs.Ordering.{ordering_reverse, ordering_then}
use Rattle.std.specs.declared.cmp.Ordering.{Ordering}
use Rattle.std.specs.declared.cmp.Ordering.TheVariants.{Less, Equal, Greater}
use Rattle.std.proofs.lemmas.Bool.{cases_eq}
use Rattle.std.proofs.lemmas.Cmp.{nat_cmp_total, on_total, then_total}
use Rattle.std.proofs.lemmas.Option.{slice_get_within}
use Rattle.std.specs.Cmp.{IsTotalOrder}
use Rattle.fractal_vt.specs.declared.key.Key.{Key}
use Rattle.fractal_vt.specs.Keys.{key_cmp}
use Rattle.fractal_vt.proofs.Proved.{key_cmp_total}
use Rattle.event_def.specs.spec_state.declared.task.Status.{Status}
use Rattle.event_def.specs.spec_state.declared.task.Status.TheVariants.{Idle, Running, Trapped, Finished}
use Rattle.event_def.specs.spec_state.declared.task.Task.{Task}
use Rattle.event_def.specs.spec_state.View.{View, task_at, queue_at}
use Rattle.event_def.specs.spec_state.Least.{Queued, IsQueuedAt, ranked_cmp, spot_cmp}
use Rattle.event_def.specs.spec_state.Queries.{IsIdle, IsLeastIdle}
use Rattle.spec_law.specs.Sound.{SoundSizes}
use Rattle.spec_law.proofs.Proved.{contains_get, distinct_at, get_contains, ranked_turned, same_spot}
use Rattle.tile_queues.proofs.Proved.{one_place}

-- a key at a place of a tile's queue
record Ranked : Type 0 where
  key : Key
  place : ℕ

-- in one tile keys and places order any two
ranked_total : (tile : ℕ)
    → IsTotalOrder (λ (a b : Ranked). ranked_cmp a.key (Queued tile a.place) b.key (Queued tile b.place))
ranked_total tile =
    then_total (on_total (λ (a : Ranked). a.key) key_cmp_total)
    (then_total (on_total (λ (a : Ranked). tile) nat_cmp_total) (on_total (λ (a : Ranked). a.place) nat_cmp_total))

-- ranks that tie are of one place
same_place : (tile p q : ℕ) (key other : Key) → ranked_cmp key (Queued tile p) other (Queued tile q) ≡ Equal → p ≡ q
same_place tile p q key other tie = by_keys (key_cmp key other) tie
  where
    by_keys : (o : Ordering) → ordering_then o (spot_cmp (Queued tile p) (Queued tile q)) ≡ Equal → p ≡ q
    by_keys Less e = absurd (cc (e))
    by_keys Equal e =
        let spots : Queued tile p ≡ Queued tile q = same_spot (Queued tile p) (Queued tile q) e in
        let places : p ≡ q = cc in
        places
    by_keys Greater e = absurd (cc (e))

module _ (view : View) (tile : ℕ) where
  -- an idle task stands at this place of the tile's queue
  record IdleAt (place id : ℕ) (task : Task) : Type 0 where
    at : IsQueuedAt view tile place id task
    idle : task.status ≡ Idle

  -- a status is that of an idle task, or isn't
  idle_is : (status : Status) → (status ≡ Idle) ⊎ (status ≡ Idle → ⊥)
  idle_is Idle = inl refl
  idle_is (Running core) = inr (λ e. absurd (cc (e)))
  idle_is (Trapped core cause) = inr (λ e. absurd (cc (e)))
  idle_is Finished = inr (λ e. absurd (cc (e)))

  -- an idle task stands at a place, or none does
  idle_or_not : (place : ℕ)
      → ((id : ℕ) × (task : Task) × IdleAt place id task) ⊎ ((id : ℕ) (task : Task) → IdleAt place id task → ⊥)
  idle_or_not place = by_queue (slice_get (queue_at view tile) place) refl
    where
      by_task : (k : ℕ) (o : Option Task) → slice_get (queue_at view tile) place ≡ Some k → task_at view k ≡ o
          → ((id : ℕ) × (task : Task) × IdleAt place id task) ⊎ ((id : ℕ) (task : Task) → IdleAt place id task → ⊥)
      by_task k None queued none = inr (λ id task one.
          let both : Some id ≡ Some k = sym one.at.queued ∙ queued in
          let same : id ≡ k = cc in
          absurd (cc (sym one.at.there ∙ ap (task_at view) same ∙ none)))
      by_task k (Some z) queued there = elim (idle_is z.status) [
        | inl idle ↦ inl (k, z, record { at = record { queued = queued; there = there }; idle = idle })
        | inr busy ↦ inr (λ id task one.
            let both : Some id ≡ Some k = sym one.at.queued ∙ queued in
            let same : id ≡ k = cc in
            let tasks : Some task ≡ Some z = sym one.at.there ∙ (ap (task_at view) same ∙ there) in
            let task_is : task ≡ z = cc in
            busy (ap (λ t. t.status) (sym task_is) ∙ one.idle))
      ]

      by_queue : (o : Option ℕ) → slice_get (queue_at view tile) place ≡ o
          → ((id : ℕ) × (task : Task) × IdleAt place id task) ⊎ ((id : ℕ) (task : Task) → IdleAt place id task → ⊥)
      by_queue None none = inr (λ id task one. absurd (cc (sym one.at.queued ∙ none)))
      by_queue (Some k) queued = by_task k (task_at view k) queued refl

  -- the least one of the idle tasks at the first places, so many
  record FirstIdle (bound : ℕ) : Type 0 where
    place : ℕ
    id : ℕ
    task : Task
    this : IdleAt place id task
    within : place < bound
    first : (q k : ℕ) (x : Task) → q < bound → q ≢ place → IdleAt q k x
        → ranked_cmp task.key (Queued tile place) x.key (Queued tile q) ≡ Less

  -- one place more, at which no task is idle
  busy_more : (bound : ℕ) → ((id : ℕ) (task : Task) → IdleAt bound id task → ⊥) → FirstIdle bound
      → FirstIdle (suc bound)
  busy_more bound busy low = record {
    place = low.place;
    id = low.id;
    task = low.task;
    this = low.this;
    within = let below = low.within in omega (arith, below);
    first = λ q k x below other one. elim (cases_eq q bound) [
      | inl same ↦ absurd (busy k x (subst (λ p. IdleAt p k x) same one))
      | inr apart ↦ low.first q k x (omega (arith, below, apart)) other one
    ];
  }

  -- one place more, at which one is
  idle_more : (bound id : ℕ) (task : Task) → IdleAt bound id task → FirstIdle bound → FirstIdle (suc bound)
  idle_more bound id task here low =
      by_order (ranked_cmp low.task.key (Queued tile low.place) task.key (Queued tile bound)) refl
    where
      -- what stands at one place is one task
      one_task : (k : ℕ) (x : Task) → IdleAt bound k x → x ≡ task
      one_task k x one =
          let both : Some k ≡ Some id = sym one.at.queued ∙ here.at.queued in
          let same : k ≡ id = cc in
          let tasks : Some x ≡ Some task = sym one.at.there ∙ (ap (task_at view) same ∙ here.at.there) in
          cc

      by_order : (o : Ordering) → ranked_cmp low.task.key (Queued tile low.place) task.key (Queued tile bound) ≡ o
          → FirstIdle (suc bound)
      by_order Less less = record {
        place = low.place;
        id = low.id;
        task = low.task;
        this = low.this;
        within = let below = low.within in omega (arith, below);
        first = λ q k x below other one. elim (cases_eq q bound) [
          | inl same ↦
              let is = one_task k x (subst (λ p. IdleAt p k x) same one) in
              ((λ i. ranked_cmp low.task.key (Queued tile low.place) (is i).key (Queued tile (same i))) ∙ less)
          | inr apart ↦ low.first q k x (omega (arith, below, apart)) other one
        ];
      }
      by_order Equal tie =
          let place_is = same_place tile low.place bound low.task.key task.key tie in
          let below = low.within in
          absurd (omega (arith, place_is, below))
      by_order Greater greater = record {
        place = bound;
        id = id;
        task = task;
        this = here;
        within = omega arith;
        first = λ q k x below other one.
            let turned : ranked_cmp task.key (Queued tile bound) low.task.key (Queued tile low.place) ≡ Less =
            ranked_turned task.key (Queued tile bound) low.task.key (Queued tile low.place)
            ∙ ap ordering_reverse greater in
            elim (cases_eq q low.place) [
              | inl same ↦
                  let there : IdleAt low.place k x = subst (λ p. IdleAt p k x) same one in
                  let both : Some k ≡ Some low.id = sym there.at.queued ∙ low.this.at.queued in
                  let ids : k ≡ low.id = cc in
                  let tasks : Some x ≡ Some low.task = sym there.at.there ∙ (ap (task_at view) ids ∙ low.this.at.there) in
                  let is : x ≡ low.task = cc in
                  ((λ i. ranked_cmp task.key (Queued tile bound) (is i).key (Queued tile (same i))) ∙ turned)
              | inr apart ↦
                  (ranked_total tile).trans (record { key = task.key; place = bound }) (record { key = low.task.key; place = low.place }) (record { key = x.key; place = q }) turned
                  (low.first q k x (omega (arith, below, other)) apart one)
            ];
      }

  -- of the first places, so many, none has an idle task, or one has the least
  none_or_first : (bound : ℕ) → ((q k : ℕ) (x : Task) → q < bound → IdleAt q k x → ⊥) ⊎ FirstIdle bound
  none_or_first zero = inl (λ q k x below one. absurd (omega (arith, below)))
  none_or_first (suc bound) = by_both (none_or_first bound) (idle_or_not bound)
    where
      by_both : ((q k : ℕ) (x : Task) → q < bound → IdleAt q k x → ⊥) ⊎ FirstIdle bound
          → ((id : ℕ) × (task : Task) × IdleAt bound id task) ⊎ ((id : ℕ) (task : Task) → IdleAt bound id task → ⊥)
          → ((q k : ℕ) (x : Task) → q < suc bound → IdleAt q k x → ⊥) ⊎ FirstIdle (suc bound)
      by_both (inl none) (inl here) = inr (record {
        place = bound;
        id = here.0;
        task = here.1;
        this = here.2;
        within = omega arith;
        first = λ q k x below other one. absurd (none q k x (omega (arith, below, other)) one);
      })
      by_both (inl none) (inr busy) = inl (λ q k x below one. elim (cases_eq q bound) [
        | inl same ↦ busy k x (subst (λ p. IdleAt p k x) same one)
        | inr apart ↦ none q k x (omega (arith, below, apart)) one
      ])
      by_both (inr low) (inl here) = inr (idle_more bound here.0 here.1 here.2 low)
      by_both (inr low) (inr busy) = inr (busy_more bound busy low)

  module _ (sizes : SoundSizes view) where
    -- the least one of all places precedes each other idle task
    least_of : FirstIdle (length (queue_at view tile)) → (id : ℕ) × (task : Task) × IsLeastIdle view tile id task
    least_of low = (
      low.id,
      low.task,
      record {
        idle =
            record {
              queued = get_contains (queue_at view tile) low.place low.id low.this.at.queued;
              there = low.this.at.there;
              idle = low.this.idle;
            };
        least = λ k x other idle p q y z at at_other.
            let distinct = distinct_at view.settings.task_queue view.queues tile sizes.task_queues in
            let place_is : low.place ≡ p = one_place (queue_at view tile) low.place p low.id distinct low.this.at.queued at.queued in
            let firsts : Some low.task ≡ Some y = sym low.this.at.there ∙ at.there in
            let first_is : low.task ≡ y = cc in
            let seconds : Some x ≡ Some z = sym idle.there ∙ at_other.there in
            let second_is : x ≡ z = cc in
            let apart : q ≢ low.place = λ same.
            (let both : Some k ≡ Some low.id = sym at_other.queued ∙ (ap (slice_get (queue_at view tile)) same ∙ low.this.at.queued) in
            let ids : k ≡ low.id = cc in
            other ids) in
            sym (λ i. ranked_cmp (first_is i).key (Queued tile (place_is i)) z.key (Queued tile q))
            ∙ low.first q k z (slice_get_within (queue_at view tile) q k at_other.queued) apart (record { at = at_other; idle = ap (λ t. t.status) (sym second_is) ∙ idle.idle });
      },
    )

    -- where a task is idle, one is the least idle one
    pub least_idle : (id : ℕ) (task : Task) → IsIdle view tile id task
        → (k : ℕ) × (x : Task) × IsLeastIdle view tile k x
    least_idle id task idle = elim (none_or_first (length (queue_at view tile))) [
      | inl none ↦
          let place = contains_get (queue_at view tile) id idle.queued in
          absurd (none place.0 id task (slice_get_within (queue_at view tile) place.0 id place.1) (record { at = record { queued = place.1; there = idle.there }; idle = idle.idle }))
      | inr low ↦ least_of low
    ]
