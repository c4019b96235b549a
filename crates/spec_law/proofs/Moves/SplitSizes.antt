-- A split leaves task queues bounded, and holding the queued tasks, where the tile's had a free place.
use Rattle.std.proofs.Common.{◌≡◌, ◌≢◌, ◌⊎◌, ◌+◌, ◌<◌, ◌≤◌, ◌∷◌, ◌++◌, ℕ, [], length, Option, Some, sym, ap, subst, ◌∙◌}
use Rattle.std.proofs.Common.{inl, inr, arith, slice_index_or, length-append, get_or-set_other, get_or-set_same}
use Rattle.std.specs.Prelude.{Contains, All}
use Rattle.std.proofs.lemmas.Bool.{cases_eq}
use Rattle.std.proofs.lemmas.List.{length-set}
use Rattle.std.proofs.lemmas.List.Elements.{All-set, Contains-get_or, Contains-append_left, Contains-append_right}
use Rattle.std.proofs.lemmas.List.Elements.{Contains-append_cases}
use Rattle.std.proofs.lemmas.List.Quantifiers.{all_pairs_push}
use Rattle.tile_queues.specs.Queue.{AreDistinct}
use Rattle.spec_state.specs.View.{View, task_at, queue_at}
use Rattle.spec_state.specs.Queries.{IsQueued}
use Rattle.spec_state.specs.Room.{Splits, QueueHasRoom}
use Rattle.spec_state.specs.Stored.{HasTask}
use Rattle.spec_state.proofs.Proved.{head_or_tail}
use Rattle.spec_law.specs.Sound.{SoundOrder, SoundSizes}
use Rattle.spec_law.proofs.Moves.Moving.{moved_to}
use Rattle.spec_law.proofs.Moves.MovingSizes.{moved_sizes}
use Rattle.spec_law.proofs.Moves.SplitMoves.{back_task, is_back, queued_still, split_moves}
use Rattle.spec_law.proofs.Tasks.Distinct.{distinct_at}

module _ (old new : View) (heir : Option ℕ) (tile : ℕ) (order : SoundOrder old heir) (sizes : SoundSizes old) (within : tile < old.settings.tiles) (free : QueueHasRoom old tile) (c : Splits tile old new) where
  -- the tile has a queue
  below : tile < length old.queues
  below = let queues = sizes.queues in omega (arith, within, queues)

  -- the tile's queue has one more
  queue_here : slice_index_or new.queues tile [] ≡ queue_at old tile ++ c.id ∷ []
  queue_here =
      ap (λ queues. slice_index_or queues tile []) c.queues
      ∙ get_or-set_same old.queues tile (queue_at old tile ++ c.id ∷ []) [] below

  -- each other queue stays
  queue_other : (at : ℕ) → at ≢ tile → slice_index_or new.queues at [] ≡ queue_at old at
  queue_other at other =
      ap (λ queues. slice_index_or queues at []) c.queues
      ∙ get_or-set_other old.queues tile at (queue_at old tile ++ c.id ∷ []) [] other

  -- what a queue held it holds
  holds_still : (at k : ℕ) → Contains (queue_at old at) k → Contains (slice_index_or new.queues at []) k
  holds_still at k has = elim (cases_eq at tile) [
    | inl same ↦
        let here : slice_index_or new.queues at [] ≡ queue_at old at ++ c.id ∷ [] =
        ap (λ i. slice_index_or new.queues i []) same ∙ queue_here ∙ ap (λ i. queue_at old i ++ c.id ∷ []) (sym same)
        in
        subst (λ ids. Contains ids k) (sym here) (Contains-append_left (queue_at old at) (c.id ∷ []) k has)
    | inr other ↦ subst (λ ids. Contains ids k) (sym (queue_other at other)) has
  ]

  -- what it holds it held, or it is the task that came back
  held_or_back : (at k : ℕ) → Contains (slice_index_or new.queues at []) k
      → Contains (queue_at old at) k ⊎ ((at ≡ tile) × (c.id ≡ k))
  held_or_back at k has = elim (cases_eq at tile) [
    | inl same ↦
        let here : slice_index_or new.queues at [] ≡ queue_at old at ++ c.id ∷ [] =
        ap (λ i. slice_index_or new.queues i []) same ∙ queue_here ∙ ap (λ i. queue_at old i ++ c.id ∷ []) (sym same)
        in
        elim (Contains-append_cases (queue_at old at) (c.id ∷ []) k (subst (λ ids. Contains ids k) here has)) [
          | inl held ↦ inl held
          | inr last ↦ elim (head_or_tail c.id [] k last) [ inl is ↦ inr (same, is) | inr none ↦ absurd (omega (arith, none.1)) ]
        ]
    | inr other ↦ inl (subst (λ ids. Contains ids k) (queue_other at other) has)
  ]

  -- each id in a queue is that of a task of the tile
  queued_forth : (at k : ℕ) → IsQueued (moved_to old new) at k → HasTask (moved_to old new) at k (λ status. Unit {0})
  queued_forth at k has = elim (held_or_back at k has) [
    | inl held ↦ let was = (sizes.queued_are at k).0 held in (was.0, queued_still old new tile sizes c k was.0 was.1, was.2, tt)
    | inr back ↦ (back_task old new tile sizes c, ap (task_at new) (sym back.1) ∙ c.changes.changed, sym back.0, tt)
  ]

  -- and each task stands in the queue of its tile
  queued_back : (at k : ℕ) → HasTask (moved_to old new) at k (λ status. Unit {0}) → IsQueued (moved_to old new) at k
  queued_back at k now = elim (cases_eq k c.id) [
    | inl same ↦
        let is : now.0 ≡ back_task old new tile sizes c = is_back old new tile sizes c k now.0 same now.1 in
        let here : at ≡ tile = sym now.2 ∙ ap (λ t. t.tile) is in
        subst (λ i. Contains (slice_index_or new.queues i []) k) (sym here)
        (subst (λ ids. Contains ids k) (sym queue_here)
        (Contains-append_right (queue_at old tile) (c.id ∷ []) k (0, omega arith, sym same)))
    | inr other ↦
        let was : task_at old k ≡ Some now.0 = sym (c.changes.others k other) ∙ now.1 in
        holds_still at k ((sizes.queued_are at k).1 (now.0, was, now.2, tt))
  ]

  -- the task that came back was in no queue
  was_out : Contains (queue_at old tile) c.id → ⊥
  was_out has = let was = (sizes.queued_are tile c.id).0 has in absurd (cc (sym was.1 ∙ c.vacant))

  -- the queue stays bounded, and its ids distinct
  bounded : (length (queue_at old tile ++ c.id ∷ []) ≤ old.settings.task_queue) × AreDistinct (queue_at old tile ++ c.id ∷ [])
  bounded = (
    (let long : length (queue_at old tile ++ c.id ∷ []) ≡ length (queue_at old tile) + 1 = length-append (queue_at old tile) (c.id ∷ []) in
        let room : length (queue_at old tile) < old.settings.task_queue = free in
        omega (arith, long, room)),
    all_pairs_push (λ a b. a ≢ b) (queue_at old tile) c.id (distinct_at old.settings.task_queue old.queues tile sizes.task_queues)
        (λ k d under same. was_out (subst (Contains (queue_at old tile)) same (Contains-get_or (queue_at old tile) k d under))),
  )

  -- a split keeps the group of sizes
  pub split_sizes : SoundSizes (moved_to old new)
  split_sizes =
      moved_sizes old new heir (split_moves old new tile sizes c) order sizes
      (ap length c.queues ∙ length-set old.queues tile _ ∙ sizes.queues)
      (ap length c.blocks ∙ length-set old.blocks tile _ ∙ sizes.blocks)
      (subst (All (λ ids. (length ids ≤ old.settings.task_queue) × AreDistinct ids)) (sym c.queues)
      (All-set (λ ids. (length ids ≤ old.settings.task_queue) × AreDistinct ids) old.queues tile (queue_at old tile ++ c.id ∷ []) bounded sizes.task_queues))
      (λ at k. (queued_forth at k, queued_back at k))
