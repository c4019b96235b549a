-- The least task is the first of the queued ones or the first of the spilled ones.
use Rattle.std.proofs.Common.{◌≡◌, ◌≢◌, ◌∷◌, ℕ, List, [], length, Some, None, refl, sym, ap, subst, ◌∙◌, inl, inr}
use Rattle.std.proofs.Common.{arith, slice_get, slice_index_or}
use Rattle.std.specs.Prelude.{Contains}
use Rattle.std.specs.Ordering.{nat_cmp, ordering_then, ordering_reverse, is_lt}
use Rattle.std.proofs.Common.{true, false}
use Rattle.std.specs.declared.cmp.Ordering.{Ordering}
use Rattle.std.specs.declared.cmp.Ordering.TheVariants.{Less, Equal, Greater}
use Rattle.std.proofs.lemmas.Bool.{cases_eq, cases_lt}
use Rattle.std.proofs.lemmas.Bool.Decides.{nat_tests}
use Rattle.std.proofs.lemmas.Cmp.{tied_itself}
use Rattle.std.proofs.lemmas.List.Elements.{All-contains}
use Rattle.std.proofs.lemmas.Option.{slice_get-get_or}
use Rattle.commit_arbiter.specs.declared.candidate.Candidate.{Candidate}
use Rattle.commit_arbiter.specs.Indexed.{candidate_cmp, first_id}
use Rattle.commit_arbiter.proofs.Proved.{candidate_cmp_total}
use Rattle.fractal_vt.specs.declared.key.Key.{Key}
use Rattle.fractal_vt.specs.Keys.{key_cmp}
use Rattle.fractal_vt.specs.Sorted.{IsInOrder}
use Rattle.fractal_vt.proofs.Proved.{AllPairs-head, key_cmp_total, less_from, then_less, greater_number, less_then}
use Rattle.spill_store.specs.SpilledTasks.{Spilled, open_key}
use Rattle.spec_state.specs.declared.task.Task.{Task}
use Rattle.spec_state.specs.declared.task.TaskId.{TaskId}
use Rattle.spec_state.specs.declared.task.Where.{Where}
use Rattle.spec_state.specs.declared.task.Where.TheVariants as where_
use Rattle.spec_state.specs.View.{View, task_at, queue_at, block_at}
use Rattle.spec_state.specs.Least.{Spot, Queued, Spilled_at, IsQueuedAt, HasKey, ranked_cmp, IsLeastTask}
use Rattle.spec_state.specs.Least.{IsLeastSpilled, IsAllCommitted, IsLeast}
use Rattle.spec_state.specs.Queries.{IsQueued}
use Rattle.spec_state.specs.Stored.{IsStored, IsIndexed, candidate_of}
use Rattle.spec_state.specs.Fronts.{IsFirstQueued, IsFirstSpilled, HoldNone, IsStanding}
use Rattle.spec_state.proofs.Entered.{head_or_tail, has_head, held_at}
use Rattle.spec_state.proofs.Fronts.{not_above, upto_place}
use Rattle.spec_state.proofs.Cored.{at_within}

-- the head of a list in order comes before all of it
head_upto : (e : Candidate) (es : List Candidate) → IsInOrder candidate_cmp (e ∷ es) → (x : Candidate)
    → Contains (e ∷ es) x → candidate_cmp e x ≢ Greater
head_upto e es order x has = elim (head_or_tail e es x has) [
  | inl same ↦ subst (λ y. candidate_cmp e y ≢ Greater) same (subst (λ o. o ≢ Greater) (sym (tied_itself candidate_cmp_total e)) (λ is. cc))
  | inr tail ↦ All-contains (λ y. candidate_cmp e y ≢ Greater) es x (AllPairs-head (λ a b. candidate_cmp a b ≢ Greater) e es order) tail
]

-- an order by key, tile, arrival and id is one by key, tile and place, where arrivals rise along a tile's places
by_place : (k t a i p : Ordering) → ordering_then k (ordering_then (ordering_then t a) i) ≢ Greater
    → (t ≡ Equal → a ≢ Greater → p ≢ Greater) → ordering_then k (ordering_then t p) ≢ Greater
by_place Less t a i p not fine = λ same. cc
by_place Equal Less a i p not fine = λ same. cc
by_place Equal Equal a i p not fine = fine refl (λ same. not (ap (λ o. ordering_then o i) same))
by_place Equal Greater a i p not fine = absurd (not refl)
by_place Greater t a i p not fine = absurd (not refl)

pub equal_numbers : (a b : ℕ) → nat_cmp a b ≡ Equal → a ≡ b
equal_numbers a b same = elim (cases_lt a b) [
  | inl less ↦ absurd (let is : nat_cmp a b ≡ Less = grind (arith, nat_tests) in let both : Less ≡ Equal = sym is ∙ same in cc)
  | inr upto ↦ elim (cases_eq a b) [
    | inl equal ↦ equal
    | inr other ↦ absurd (let is : nat_cmp a b ≡ Greater = grind (arith, nat_tests) in let both : Greater ≡ Equal = sym is ∙ same in cc)
  ]
]

module _ (size : ℕ) (view : View) (arrivals : List ℕ) (next : ℕ) (stored : IsStored size view) where
  module _ (e : Candidate) (es : List Candidate) (is : IsIndexed view.tasks view.queues arrivals next (e ∷ es)) (order : IsInOrder candidate_cmp (e ∷ es)) (task : Task)
      (there : task_at view e.id ≡ Some task) (entry : e ≡ candidate_of arrivals e.id task) (has : IsQueued view task.tile e.id) where
    at_place : slice_get (queue_at view task.tile) has.0 ≡ Some e.id
    at_place = slice_get-get_or (queue_at view task.tile) has.0 e.id has.1 ∙ ap Some has.2

    first : (tile p k : ℕ) (x : Task) → IsQueuedAt view tile p k x
        → ranked_cmp task.key (Queued task.tile has.0) x.key (Queued tile p) ≢ Greater
    first tile p k x at =
        let held = (stored.queued_are tile k).0 (held_at (queue_at view tile) p k at.queued) in
        let both : Some x ≡ Some held.0 = sym at.there ∙ held.1 in
        let same : x ≡ held.0 = cc in
        let own : x.tile ≡ tile = ap (λ (t : Task). t.tile) same ∙ held.2 in
        let upto : candidate_cmp (candidate_of arrivals e.id task) (candidate_of arrivals k x) ≢ Greater =
        subst (λ (y : Candidate). candidate_cmp y (candidate_of arrivals k x) ≢ Greater) entry (head_upto e es order (candidate_of arrivals k x) (is.all k x at.there)) in
        let upto' = subst (λ n. ordering_then (key_cmp task.key x.key) (ordering_then (ordering_then (nat_cmp task.tile n) (nat_cmp (slice_index_or arrivals e.id 0) (slice_index_or arrivals k 0))) (nat_cmp e.id k)) ≢ Greater) own upto in
        by_place (key_cmp task.key x.key) (nat_cmp task.tile tile) (nat_cmp (slice_index_or arrivals e.id 0) (slice_index_or arrivals k 0)) (nat_cmp e.id k) (nat_cmp has.0 p) upto'
        (λ tiles numbers. elim (cases_lt p has.0) [
          | inl before ↦
              let tile_is = equal_numbers task.tile tile tiles in
              let here : slice_get (queue_at view tile) has.0 ≡ Some e.id = subst (λ n. slice_get (queue_at view n) has.0 ≡ Some e.id) tile_is at_place in
              absurd (numbers (greater_number (slice_index_or arrivals e.id 0) (slice_index_or arrivals k 0) (is.rising tile p has.0 k e.id before at.queued here)))
          | inr behind ↦ upto_place has.0 p behind
        ])

    first_of : IsFirstQueued view e.id task
    first_of = record { place = has.0; queued_at = record { queued = at_place; there = there }; first = first }

  -- the first candidate of the index is that of the first queued task
  pub first_queued : (listed : List Candidate) → IsIndexed view.tasks view.queues arrivals next listed
      → IsInOrder candidate_cmp listed → (id : ℕ) → first_id listed ≡ Some id
      → (task : Task) × IsFirstQueued view id task
  first_queued [] is order id at = absurd (cc)
  first_queued (e ∷ es) is order id at =
      let same : e.id ≡ id = cc in
      let mine = is.each e (has_head e es) in
      let has = (stored.queued_are mine.0.tile e.id).1 (mine.0, mine.1, refl, tt) in
      subst (λ k. (task : Task) × IsFirstQueued view k task) same (mine.0, first_of e es is order mine.0 mine.1 mine.2 has)

  -- where the index is empty no task is queued
  pub none_queued : (listed : List Candidate) → IsIndexed view.tasks view.queues arrivals next listed
      → first_id listed ≡ None → (tile id : ℕ) → IsQueued view tile id → ⊥
  none_queued [] is none tile id has =
      let there = (stored.queued_are tile id).0 has in
      let found = is.all id there.0 there.1 in
      absurd (omega (arith, found.1))
  none_queued (e ∷ es) is none tile id has = cc

module _ (view : View) where
  -- the first queued task is the least where no spilled one has a lesser key
  pub least_queued : (id : ℕ) (task : Task) → IsFirstQueued view id task
      → ((t p : ℕ) (s : Spilled) → slice_get (block_at view t) p ≡ Some s → key_cmp task.key (open_key s) ≢ Greater)
      → IsLeastTask view id task
  least_queued id task first spilled = record {
    place = first.place;
    queued_at = first.queued_at;
    least = record { key = task.key; has = (id, task, first.queued_at, refl); least = least };
  }
    where
      least : (other : Spot) (other_key : Key) → HasKey view other other_key
          → ranked_cmp task.key (Queued task.tile first.place) other_key other ≢ Greater
      least (Queued tile p) key (k, x, at, same) =
          subst (λ y. ranked_cmp task.key (Queued task.tile first.place) y (Queued tile p) ≢ Greater) (sym same) (first.first tile p k x at)
      least (Spilled_at t p) key (s, at, same) =
          subst (λ y. ranked_cmp task.key (Queued task.tile first.place) y (Spilled_at t p) ≢ Greater) (sym same)
          (then_less (key_cmp task.key (open_key s)) (spilled t p s at))

  -- the first spilled task is the least where its key is less than that of each queued one
  pub least_spilled : (tile : ℕ) (key : Key) → IsFirstSpilled view.blocks (length view.blocks) tile key
      → ((t p k : ℕ) (x : Task) → IsQueuedAt view t p k x → key_cmp key x.key ≡ Less)
      → IsLeastSpilled view tile
  least_spilled tile key first queued = record {
    place = first.place;
    least = record { key = key; has = (first.spilled, first.there, first.of_task); least = least };
  }
    where
      least : (other : Spot) (other_key : Key) → HasKey view other other_key
          → ranked_cmp key (Spilled_at tile first.place) other_key other ≢ Greater
      least (Queued t p) other (k, x, at, same) =
          subst (λ y. ranked_cmp key (Spilled_at tile first.place) y (Queued t p) ≢ Greater) (sym same)
          (subst (λ o. ordering_then o Greater ≢ Greater) (sym (queued t p k x at)) (λ is. cc))
      least (Spilled_at t p) other (s, at, same) =
          subst (λ y. ranked_cmp key (Spilled_at tile first.place) y (Spilled_at t p) ≢ Greater) (sym same)
          (first.first t p s (at_within view.blocks t p s at) at)

  -- no key of a spilled task is less than the first one's
  pub above_front : (tile : ℕ) (key : Key) → IsFirstSpilled view.blocks (length view.blocks) tile key
      → (t p : ℕ) (s : Spilled) → slice_get (block_at view t) p ≡ Some s → key_cmp key (open_key s) ≢ Greater
  above_front tile key first t p s at same =
      first.first t p s (at_within view.blocks t p s at) at (ap (λ o. ordering_then o (ordering_then (nat_cmp tile t) (nat_cmp first.place p))) same)

  -- no key of a queued task is less than the first one's
  pub above_first : (id : ℕ) (task : Task) → IsFirstQueued view id task → (t p k : ℕ) (x : Task)
      → IsQueuedAt view t p k x → key_cmp task.key x.key ≢ Greater
  above_first id task first t p k x at same =
      first.first t p k x at (ap (λ o. ordering_then o (ordering_then (nat_cmp task.tile t) (nat_cmp first.place p))) same)

  pub all_committed : ((tile id : ℕ) → IsQueued view tile id → ⊥) → HoldNone view.blocks (length view.blocks)
      → IsAllCommitted view
  all_committed queued spilled (Queued tile p) key has =
      queued tile has.0 (held_at (queue_at view tile) p has.0 has.2.queued)
  all_committed queued spilled (Spilled_at t p) key has =
      spilled t p has.0 (at_within view.blocks t p has.0 has.1) has.1

  pub not_all_queued : (id : ℕ) (task : Task) → IsFirstQueued view id task → IsAllCommitted view → ⊥
  not_all_queued id task first all = all (Queued task.tile first.place) task.key (id, task, first.queued_at, refl)

  pub not_all_spilled : (tile : ℕ) (key : Key) → IsFirstSpilled view.blocks (length view.blocks) tile key
      → IsAllCommitted view → ⊥
  not_all_spilled tile key first all = all (Spilled_at tile first.place) key (first.spilled, first.there, first.of_task)

  -- the least task, as it stands
  pub stands : (w : Where) (id : TaskId) (task : Task) → IsStanding w id task → IsLeastTask view id.0 task
      → IsLeast view w
  stands (where_.Idle k) id task is least =
      (task, subst (λ (j : TaskId). IsLeastTask view j.0 task) (sym is.0) least, is.1)
  stands (where_.Running k) id task is least =
      (task, is.1.0, subst (λ (j : TaskId). IsLeastTask view j.0 task) (sym is.0) least, is.1.1)
  stands (where_.Trapped k) id task is least =
      (task, is.1.0, is.1.1, subst (λ (j : TaskId). IsLeastTask view j.0 task) (sym is.0) least, is.1.2)
  stands (where_.Finished k) id task is least =
      (task, subst (λ (j : TaskId). IsLeastTask view j.0 task) (sym is.0) least, is.1)
  stands (where_.Spilled k) id task is least = absurd is

no_spilled : (blocks : List (List Spilled)) → HoldNone blocks (length blocks) → (t p : ℕ) (s : Spilled)
    → slice_get (slice_index_or blocks t []) p ≡ Some s → ⊥
no_spilled blocks none t p s at = none t p s (at_within blocks t p s at) at

-- the first queued task, as it stands, where no spilled one has a lesser key
stands_first : (view : View) (w : Where) (id : TaskId) (found : (task : Task) × IsFirstQueued view id.0 task) (now : Task)
    → task_at view id.0 ≡ Some now → IsStanding w id now
    → ((t p : ℕ) (s : Spilled) → slice_get (block_at view t) p ≡ Some s → key_cmp now.key (open_key s) ≢ Greater)
    → IsLeast view w
stands_first view w id found now at standing spilled =
    let both : Some found.0 ≡ Some now = sym found.1.queued_at.there ∙ at in
    let same : found.0 ≡ now = cc in
    stands view w id now standing (least_queued view id.0 now (subst (IsFirstQueued view id.0) same found.1) spilled)

pub stands_alone : (view : View) (w : Where) (id : TaskId) (found : (task : Task) × IsFirstQueued view id.0 task) (now : Task)
    → task_at view id.0 ≡ Some now → IsStanding w id now
    → HoldNone view.blocks (length view.blocks) → IsLeast view w
stands_alone view w id found now at standing none =
    stands_first view w id found now at standing (λ t p s here. absurd (no_spilled view.blocks none t p s here))

pub upto_turned : (a b : Key) → is_lt (key_cmp a b) ≡ false → key_cmp b a ≢ Greater
upto_turned a b off = back (key_cmp b a) (key_cmp_total.antisymm a b)
  where
    back : (r : Ordering) → key_cmp a b ≡ ordering_reverse r → r ≢ Greater
    back Less e = λ same. cc
    back Equal e = λ same. cc
    back Greater e = absurd (cc (ap is_lt e, off))

pub stands_before : (view : View) (w : Where) (id : TaskId) (found : (task : Task) × IsFirstQueued view id.0 task) (now : Task)
    → task_at view id.0 ≡ Some now → IsStanding w id now
    → (tile : ℕ) (key : Key) → IsFirstSpilled view.blocks (length view.blocks) tile key
    → is_lt (key_cmp key now.key) ≡ false → IsLeast view w
stands_before view w id found now at standing tile key front off =
    stands_first view w id found now at standing (λ t p s here. not_above key_cmp_total now.key key (open_key s) (upto_turned key now.key off) (above_front view tile key front t p s here))

-- the first spilled task, before the first queued one
pub spilled_before : (view : View) (id : ℕ) (found : (task : Task) × IsFirstQueued view id task) (now : Task)
    → task_at view id ≡ Some now → (tile : ℕ) (key : Key)
    → IsFirstSpilled view.blocks (length view.blocks) tile key → is_lt (key_cmp key now.key) ≡ true
    → IsLeastSpilled view tile
spilled_before view id found now at tile key front less =
    let both : Some found.0 ≡ Some now = sym found.1.queued_at.there ∙ at in
    let same : found.0 ≡ now = cc in
    let first = subst (IsFirstQueued view id) same found.1 in
    least_spilled view tile key front (λ t p k x here. less_then key_cmp_total key now.key x.key (less_from (key_cmp key now.key) less) (above_first view id now first t p k x here))
