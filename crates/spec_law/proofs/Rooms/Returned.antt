-- The least task that comes back by a split is the least one still: it stands last in its tile's task queue, and no
-- other queued task has its key.
use Rattle.std.proofs.Common.{◌≡◌, ◌≢◌, ◌⊎◌, ℕ, zero, suc, ◌<◌, List, [], ◌∷◌, ◌++◌, length, remove, Some, refl, sym}
use Rattle.std.proofs.Common.{ap, subst, ◌∙◌, inl, inr, arith, slice_get, slice_index_or}
use Rattle.std.proofs.lemmas.Bool.{cases_eq}
use Rattle.std.proofs.lemmas.Cmp.{nat_cmp_total, tied_itself}
use Rattle.std.proofs.lemmas.List.{get_or-set_same, get_or-set_other}
use Rattle.std.specs.Ordering.{nat_cmp, ordering_then}
use Rattle.std.specs.declared.cmp.Ordering.TheVariants.{Less, Equal, Greater}
use Rattle.fractal_vt.proofs.Proved.{first_not_greater, get_end, key_cmp_total, then_greater, then_less}
use Rattle.fractal_vt.specs.Keys.{key_cmp}
use Rattle.fractal_vt.specs.declared.key.Key.{Key}
use Rattle.spill_store.specs.SpilledTasks.{Spilled, open_key}
use Rattle.spec_state.specs.declared.task.Task.{Task}
use Rattle.spec_state.specs.View.{View, task_at, queue_at, block_at}
use Rattle.spec_state.specs.Tasks.{idle_task, spilled_descriptor}
use Rattle.spec_state.specs.Least.{Spot, Queued, Spilled_at, HasKey, spot_cmp, place_cmp, ranked_cmp, IsLeastSpilled}
use Rattle.spec_state.specs.Room.{Splits}
use Rattle.spec_state.proofs.Proved.{at_within}
use Rattle.spec_law.specs.RoomLaws.{SplitKeepsLeast}
use Rattle.spec_law.specs.Sound.{SoundSizes}
use Rattle.spec_law.proofs.Tasks.Places.{get_contains}
use Rattle.spec_law.proofs.Rooms.Moved.{split_returns_least}

-- what is found in a list with one element more is that element, at the end, or was found before
pushed : {X : Type 0} (xs : List X) (x y : X) (k : ℕ) → slice_get (xs ++ x ∷ []) k ≡ Some y
    → (slice_get xs k ≡ Some y) ⊎ ((k ≡ length xs) × (x ≡ y))
pushed [] x y zero at = let same : x ≡ y = cc in inr (refl, same)
pushed [] x y (suc k) at = absurd (cc (at))
pushed (z ∷ xs) x y zero at = inl at
pushed (z ∷ xs) x y (suc k) at = elim (pushed xs x y k at) [ inl was ↦ inl was | inr end ↦ inr (ap suc end.0, end.1) ]

-- what is left once one element was taken out was there before
was_there : {X : Type 0} (xs : List X) (i k : ℕ) (x : X) → slice_get (remove xs i) k ≡ Some x
    → (j : ℕ) × (slice_get xs j ≡ Some x)
was_there [] zero k x at = absurd (cc (at))
was_there [] (suc i) k x at = absurd (cc (at))
was_there (y ∷ xs) zero k x at = (suc k, at)
was_there (y ∷ xs) (suc i) zero x at = (zero, at)
was_there (y ∷ xs) (suc i) (suc k) x at = let more = was_there xs i k x at in (suc more.0, more.1)

-- a spot ranks no higher than itself
itself_upto : (key : Key) (spot : Spot) → spot_cmp spot spot ≡ Equal → ranked_cmp key spot key spot ≢ Greater
itself_upto key spot tie e =
    absurd (cc (ap (λ o. ordering_then o (spot_cmp spot spot)) (tied_itself key_cmp_total key), tie, e))

-- a queued spot ties with itself
queued_ties : (tile place : ℕ) → place_cmp tile place tile place ≡ Equal
queued_ties tile place =
    ap (λ o. ordering_then o (nat_cmp place place)) (tied_itself nat_cmp_total tile) ∙ tied_itself nat_cmp_total place

module _ (tile : ℕ) (old new : View) (sizes : SoundSizes old) (least : IsLeastSpilled old tile) (splits : Splits tile old new) where
  -- the task that came back
  abbrev back : Task
  back = idle_task old.version (spilled_descriptor splits.spilled) splits.creator tile

  -- its place
  abbrev end : ℕ
  end = length (queue_at old tile)

  within : tile < length old.queues
  within =
      let inside = at_within old.blocks tile least.place least.least.has.0 least.least.has.1 in
      omega (arith, inside, sizes.blocks, sizes.queues)

  -- the tile's queue has it behind all others
  queue_now : queue_at new tile ≡ queue_at old tile ++ splits.id ∷ []
  queue_now =
      ap (λ queues. slice_index_or queues tile []) splits.queues
      ∙ get_or-set_same old.queues tile (queue_at old tile ++ splits.id ∷ []) [] within

  -- each other queue stays
  queue_kept : (t : ℕ) → t ≢ tile → queue_at new t ≡ queue_at old t
  queue_kept t other =
      ap (λ queues. slice_index_or queues t []) splits.queues
      ∙ get_or-set_other old.queues tile t (queue_at old tile ++ splits.id ∷ []) [] other

  -- its key is the least one
  key_is : open_key splits.spilled ≡ least.least.key
  key_is =
      let both : Some splits.spilled ≡ Some least.least.has.0 = sym (split_returns_least tile old new least splits).0 ∙ least.least.has.1 in
      let same : splits.spilled ≡ least.least.has.0 = cc in
      ap open_key same ∙ sym least.least.has.2

  -- what stands in a queue stood there before, or is the task that came back
  queued_was : (t p k : ℕ) → slice_get (queue_at new t) p ≡ Some k
      → (slice_get (queue_at old t) p ≡ Some k) ⊎ ((t ≡ tile) × (p ≡ end) × (splits.id ≡ k))
  queued_was t p k at = elim (cases_eq t tile) [
    | inl here ↦
        let found : slice_get (queue_at old tile ++ splits.id ∷ []) p ≡ Some k =
        ap (λ queue. slice_get queue p) (sym (ap (queue_at new) here ∙ queue_now)) ∙ at in
        elim (pushed (queue_at old tile) splits.id k p found) [
          | inl was ↦ inl (ap (λ u. slice_get (queue_at old u) p) here ∙ was)
          | inr last ↦ inr (here, last.0, last.1)
        ]
    | inr other ↦ inl (ap (λ queue. slice_get queue p) (sym (queue_kept t other)) ∙ at)
  ]

  -- an id of the old queues is not the one that was vacant
  not_vacant : (t p k : ℕ) → slice_get (queue_at old t) p ≡ Some k → k ≢ splits.id
  not_vacant t p k at same =
      let has = (sizes.queued_are t k).0 (get_contains (queue_at old t) p k at) in
      absurd (cc (has.1, ap (task_at old) same, splits.vacant))

  -- what stands in a block stood there before, at some place
  spilled_was : (t p : ℕ) (s : Spilled) → slice_get (block_at new t) p ≡ Some s
      → (j : ℕ) × (slice_get (block_at old t) j ≡ Some s)
  spilled_was t p s at = elim (cases_eq t tile) [
    | inl here ↦
        let inside : tile < length old.blocks = at_within old.blocks tile least.place least.least.has.0 least.least.has.1 in
        let now : block_at new t ≡ remove (block_at old tile) splits.least.place =
        ap (block_at new) here ∙ ap (λ blocks. slice_index_or blocks tile []) splits.blocks
        ∙ get_or-set_same old.blocks tile splits.block [] inside ∙ splits.least.others in
        let was = was_there (block_at old tile) splits.least.place p s (ap (λ block. slice_get block p) (sym now) ∙ at) in
        (was.0, ap (λ u. slice_get (block_at old u) was.0) here ∙ was.1)
    | inr other ↦
        let same : block_at new t ≡ block_at old t =
        ap (λ blocks. slice_index_or blocks t []) splits.blocks
        ∙ get_or-set_other old.blocks tile t splits.block [] other in
        (p, ap (λ block. slice_get block p) (sym same) ∙ at)
  ]

  -- no task ranks below it
  none_below : (other : Spot) (key : Key) → HasKey new other key
      → ranked_cmp (open_key splits.spilled) (Queued tile end) key other ≢ Greater
  none_below (Queued t p) key has = elim (queued_was t p has.0 has.2.queued) [
    | inl was ↦
        let there : task_at old has.0 ≡ Some has.1 = sym (splits.changes.others has.0 (not_vacant t p has.0 was)) ∙ has.2.there in
        let upto = least.least.least (Queued t p) key (has.0, has.1, record { queued = was; there = there }, has.3) in
        let less : key_cmp (open_key splits.spilled) key ≡ Less = ap (λ low. key_cmp low key) key_is ∙ then_greater (key_cmp least.least.key key) upto in
        (λ e. absurd (cc (less, e)))
    | inr here ↦
        let both : Some has.1 ≡ Some back = sym has.2.there ∙ ap (task_at new) (sym here.2) ∙ splits.changes.changed in
        let task_is : has.1 ≡ back = cc in
        let key_same : key ≡ open_key splits.spilled = has.3 ∙ ap (λ t. t.key) task_is in
        let spot_same : Queued tile end ≡ Queued t p = λ i. Queued (sym here.0 i) (sym here.1 i) in
        subst (λ spot. ranked_cmp (open_key splits.spilled) (Queued tile end) key spot ≢ Greater) spot_same
        (subst (λ k. ranked_cmp (open_key splits.spilled) (Queued tile end) k (Queued tile end) ≢ Greater)
        (sym key_same)
        (itself_upto (open_key splits.spilled) (Queued tile end) (queued_ties tile end)))
  ]
  none_below (Spilled_at t p) key has =
      let was = spilled_was t p has.0 has.1 in
      let upto = first_not_greater (key_cmp least.least.key key) (place_cmp tile least.place t was.0) (least.least.least (Spilled_at t was.0) key (has.0, was.1, has.2)) in
      then_less (key_cmp (open_key splits.spilled) key) (λ e. upto (sym (ap (λ low. key_cmp low key) key_is) ∙ e))

pub split_keeps_least : SplitKeepsLeast
split_keeps_least image tile old new sound least splits =
    let task : Task = idle_task old.version (spilled_descriptor splits.spilled) splits.creator tile in
    let place : ℕ = length (queue_at old tile) in
    let stands : slice_get (queue_at new tile) place ≡ Some splits.id =
    ap (λ queue. slice_get queue place) (queue_now tile old new sound.sizes least splits)
    ∙ get_end (queue_at old tile) splits.id in (
      task,
      record {
        place = place;
        queued_at = record { queued = stands; there = splits.changes.changed };
        least = record {
          key = open_key splits.spilled;
          has = (splits.id, task, record { queued = stands; there = splits.changes.changed }, refl);
          least = none_below tile old new sound.sizes least splits;
        };
      },
    )
