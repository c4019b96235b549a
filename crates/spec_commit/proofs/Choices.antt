-- The latest idle firm tasks of a queue, as one place of it after another is looked at, from the last one on.
use Rattle.std.proofs.Common.{◌≡◌, ◌⊎◌, ◌<◌, ◌≤◌, ◌+◌, ℕ, List, length, take, drop, Option, Some, sym, ap, subst, ◌∙◌}
use Rattle.std.proofs.Common.{inl, inr, arith, slice_get, slice_index_or}
use Rattle.std.specs.Prelude.{Contains, IsSome, is_some}
use Rattle.std.proofs.lemmas.Bool.{cases_eq}
use Rattle.std.proofs.lemmas.Option.{slice_get-get_or, slice_get_within}
use Rattle.tile_queues.specs.Queue.{AreDistinct}
use Rattle.spec_state.specs.declared.task.Status.TheVariants.{Idle}
use Rattle.spec_state.specs.declared.task.Task.{Task}
use Rattle.spec_state.specs.declared.reserving.TheConstants.{MAX_MOVED}
use Rattle.spec_state.specs.View.{View, task_at, queue_at}
use Rattle.spec_state.specs.Least.{IsHeir, Precedes}
use Rattle.spec_state.specs.Fronts.{IsFirmBy}
use Rattle.spec_state.specs.Room.{IsMovable, AreChosen}
use Rattle.spec_state.specs.Stored.{IsStored}
use Rattle.spec_state.proofs.Proved.{by_firm, firm_by, held_at}
use Rattle.spec_commit.specs.Latest.{HasLessKey, MayMove, AreLatest, with_one}
use Rattle.spec_commit.proofs.Latest.{in_take, in_drop, pairs_at, one_more}
use Rattle.spec_commit.proofs.Places.{less_precedes, place_precedes, precedes_trans}

-- the id at a place
pub item_at : (view : View) (tile : ℕ) (ids : List ℕ) (i : ℕ) → ids ≡ queue_at view tile → i < length ids
    → slice_get (queue_at view tile) i ≡ Some (slice_index_or ids i 0)
item_at view tile ids i same within =
    subst (λ xs. slice_get xs i ≡ Some (slice_index_or ids i 0)) same (slice_get-get_or ids i 0 within)

-- is that of a task
pub live_at : (size : ℕ) (view : View) (tile i id : ℕ) → IsStored size view → slice_get (queue_at view tile) i ≡ Some id
    → IsSome (task_at view id)
live_at size view tile i id stored at =
    ap is_some ((stored.queued_are tile id).0 (held_at (queue_at view tile) i id at)).1

-- as each of the chosen is
pub live_chosen : (view : View) (tile count : ℕ) (ids slice : List ℕ) (k other : ℕ)
    → AreLatest (Precedes view tile) (MayMove view tile count) MAX_MOVED ids → slice ≡ ids
    → slice_get slice k ≡ Some other → IsSome (task_at view other)
live_chosen view tile count ids slice k other was same at =
    ap is_some (was.each other (held_at ids k other (subst (λ xs. slice_get xs k ≡ Some other) same at))).1.1.idle.there

module _ (view : View) (tile : ℕ) (distinct : AreDistinct (queue_at view tile)) (heir : Option ℕ) (is_heir : IsHeir view heir) (seen i id : ℕ)
    (at_place : i + seen + 1 ≡ length (queue_at view tile)) (item : slice_get (queue_at view tile) i ≡ Some id)
    (task : Task) (there : task_at view id ≡ Some task) (chosen : List ℕ) (was : AreLatest (Precedes view tile) (MayMove view tile seen) MAX_MOVED chosen) where
  abbrev Before : ℕ → ℕ → Type 0
  Before = Precedes view tile

  grows : (k : ℕ) → MayMove view tile seen k → MayMove view tile (seen + 1) k
  grows k may = ((may.0.0, omega (arith, may.0.1), may.0.2), may.1)

  which : (k : ℕ) → MayMove view tile (seen + 1) k → MayMove view tile seen k ⊎ (id ≡ k)
  which k may = elim (cases_eq may.0.0 i) [
    | inl same ↦ inr (let both : Some id ≡ Some k = sym item ∙ ap (slice_get (queue_at view tile)) (sym same) ∙ may.0.2 in cc)
    | inr other ↦ inl ((may.0.0, omega (arith, may.0.1, at_place, other), may.0.2), may.1)
  ]

  -- where the task may not move they stay
  pub passed_over : (task.status ≡ Idle × IsFirmBy heir task.creator → ⊥)
      → AreLatest Before (MayMove view tile (seen + 1)) MAX_MOVED chosen
  passed_over not = record {
    each = λ k has. grows k (was.each k has);
    few = was.few;
    all = λ less k may. was.all less k (back k may);
    latest = λ stays k may. was.latest stays k (back stays may);
    rising = was.rising;
  }
    where
      cannot : (k : ℕ) → id ≡ k → IsMovable view tile k → ⊥
      cannot k same moves =
          let both : Some moves.0 ≡ Some task = sym moves.1.idle.there ∙ ap (task_at view) (sym same) ∙ there in
          let one : moves.0 ≡ task = cc in
          not (subst (λ (t : Task). (t.status ≡ Idle) × IsFirmBy heir t.creator) one (moves.1.idle.idle, by_firm view heir moves.0 is_heir moves.1.firm))

      back : (k : ℕ) → MayMove view tile (seen + 1) k → MayMove view tile seen k
      back k may = elim (which k may) [ inl old ↦ old | inr same ↦ absurd (cannot k same may.1) ]

  module _ (moves : task.status ≡ Idle × IsFirmBy heir task.creator) (place : ℕ) (slice : List ℕ) (same : slice ≡ chosen)
      (below : (k other : ℕ) → k < place → slice_get slice k ≡ Some other → HasLessKey view other id)
      (not_below : (other : ℕ) → slice_get slice place ≡ Some other → HasLessKey view other id → ⊥) where
    comes : MayMove view tile (seen + 1) id
    comes = (
      (i, omega (arith, at_place), item),
      (
        task,
        record {
          idle = record { queued = held_at (queue_at view tile) i id item; there = there; idle = moves.0 };
          firm = firm_by view heir task is_heir moves.1;
        },
      ),
    )

    along : (p q : ℕ) → MayMove view tile seen p → MayMove view tile seen q → Before p q → Before q id → Before p id
    along p q first second =
        precedes_trans view tile distinct p q id second.0.0 second.1.0 (record { queued = second.0.2; there = second.1.1.idle.there })

    lower : (y : ℕ) → Contains (take place chosen) y → Before y id
    lower y has =
        let found = in_take place chosen y has in
        less_precedes view tile distinct y id (below found.0 y found.1 (ap (λ xs. slice_get xs found.0) same ∙ found.2))

    -- the first of those that come behind it
    first_behind : (y : ℕ) → slice_get chosen place ≡ Some y → Before id y
    first_behind y at =
        let may = was.each y (held_at chosen place y at) in
        place_precedes view tile distinct id y i may.0.0 item may.0.2 (omega (arith, may.0.1, at_place)) (not_below y (ap (λ xs. slice_get xs place) same ∙ at))

    upper : (y : ℕ) → Contains (drop place chosen) y → Before id y
    upper y has = (let found = in_drop place chosen y has in go found.0 found.1 found.2)
      where
        go : (k : ℕ) → place ≤ k → slice_get chosen k ≡ Some y → Before id y
        go k upto at = elim (cases_eq k place) [
          | inl is ↦ first_behind y (ap (slice_get chosen) (sym is) ∙ at)
          | inr other ↦
              let z : ℕ = slice_index_or chosen place 0 in
              let at_z : slice_get chosen place ≡ Some z = slice_get-get_or chosen place 0 (let within = slice_get_within chosen k y at in omega (arith, within, upto)) in
              let may = was.each z (held_at chosen place z at_z) in
              precedes_trans view tile distinct id z y may.0.0 may.1.0 (record { queued = may.0.2; there = may.1.1.idle.there })
              (first_behind z at_z)
              (pairs_at Before chosen place k z y was.rising (omega (arith, upto, other)) at_z at)
        ]

    -- and where it may it is put among them
    pub taken : (after : List ℕ) → after ≡ with_one chosen place id
        → AreLatest Before (MayMove view tile (seen + 1)) MAX_MOVED after
    taken after is = subst (AreLatest Before (MayMove view tile (seen + 1)) MAX_MOVED) (sym is)
        (one_more Before (MayMove view tile seen) (MayMove view tile (seen + 1)) id chosen place was grows comes which lower upper along)

-- once all places are looked at they are the chosen ones
pub all_looked_at : (view : View) (tile count : ℕ) (ids chosen : List ℕ) → ids ≡ queue_at view tile → length ids ≤ count
    → AreLatest (Precedes view tile) (MayMove view tile count) MAX_MOVED chosen
    → AreChosen view tile chosen
all_looked_at view tile count ids chosen same past is = record {
  movable = λ id has. (is.each id has).1;
  few = is.few;
  all = λ less id moves. is.all less id (may id moves);
  latest = λ stays id moves not has. is.latest stays id (may stays moves) not has;
  rising = is.rising;
}
  where
    may : (id : ℕ) → IsMovable view tile id → MayMove view tile count id
    may id moves =
        let has = moves.1.idle.queued in
        let long : length (queue_at view tile) ≤ count = subst (λ xs. length xs ≤ count) same past in
        ((has.0, omega (arith, long), slice_get-get_or (queue_at view tile) has.0 id has.1 ∙ ap Some has.2), moves)
