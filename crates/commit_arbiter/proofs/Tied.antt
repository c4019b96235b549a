-- One candidate gets another tiebreaker, in its slot and in the heap.
use Rattle.std.proofs.Common.{◌≡◌, ◌≢◌, ℕ, zero, suc, ◌<◌, false, nat_eq, Option, Some, None, List, [], ◌∷◌, ◌++◌}
use Rattle.std.proofs.Common.{length, get_or, set, sym, ap, subst, ◌∙◌, inl, inr, arith}
use Rattle.std.specs.Prelude.{Contains}
use Rattle.std.specs.List.{AllPairs, AllByRecursion, IsDistinct, remove}
use Rattle.std.specs.List.Sorted.{IsPermutation}
use Rattle.std.specs.Ordering.{nat_cmp, ordering_then}
use Rattle.std.specs.declared.cmp.Ordering.TheVariants.{Less, Greater}
use Rattle.std.proofs.lemmas.Bool.{cases_lt, cases_eq}
use Rattle.std.proofs.lemmas.Bool.Decides.{nat_tests}
use Rattle.std.proofs.lemmas.List.{get_or-set_same, get_or-set_other, get_or_default, get_or_append_left, length-append}
use Rattle.std.proofs.lemmas.List.{length-set, take-set-le, drop-set-lt}
use Rattle.std.proofs.lemmas.List.Sorted.{IsPermutation-remove, IsPermutation-sym, Contains-permutation}
use Rattle.std.proofs.lemmas.List.Sorted.{length_permutation}
use Rattle.std.proofs.lemmas.Option.{slice_get_within, get_or_from_slice_get}
use Rattle.fractal_vt.specs.Keys.{key_cmp}
use Rattle.fractal_vt.specs.Sorted.{after_insert}
use Rattle.fractal_vt.proofs.KeyLaws.{open_above}
use Rattle.commit_arbiter.specs.declared.candidate.Candidate.{Candidate}
use Rattle.commit_arbiter.specs.Indexed.{candidate_cmp, HasId, without_candidate, with_tiebreaker, IsOpenIn, IsTied}
use Rattle.commit_arbiter.specs.Slots.{blank_candidate, in_slots, IsSlotted, candidate_at, IsPlaceOfId}
use Rattle.commit_arbiter.specs.Heap.{IsHeap, IsHeapUp, IsHeapApart, IsHeapIndex, in_rising_order, upto}
use Rattle.commit_arbiter.proofs.InSlots.{in_slots-set}
use Rattle.commit_arbiter.proofs.Swaps.{not_above_trans}
use Rattle.commit_arbiter.proofs.Heaps.{changed, lowered}
use Rattle.commit_arbiter.proofs.Ordered.{in_rising_order-permutation, in_rising_order-permutes, taken_out}
use Rattle.commit_arbiter.proofs.Ordered.{ids_permuted, ids_in_order, has_permuted}

-- in the slots

front_distinct : (xs ys : List ℕ) → IsDistinct nat_eq (xs ++ ys) → IsDistinct nat_eq xs
unfolding IsDistinct
front_distinct [] ys all = tt
front_distinct (x ∷ xs) ys all = (front_all xs ys all.0, front_distinct xs ys all.1)
  where
    front_all : (xs ys : List ℕ) → AllByRecursion (λ y. nat_eq x y ≡ false) (xs ++ ys)
        → AllByRecursion (λ y. nat_eq x y ≡ false) xs
    front_all [] ys all = tt
    front_all (y ∷ xs) ys all = (all.0, front_all xs ys all.1)

differs_at : (x : ℕ) (xs : List ℕ) (k d : ℕ) → AllByRecursion (λ y. nat_eq x y ≡ false) xs → k < length xs
    → x ≢ get_or xs k d
differs_at x [] k d all inside = absurd (omega arith)
differs_at x (y ∷ xs) zero d all inside = differ x y all.0
  where
    differ : (x y : ℕ) → nat_eq x y ≡ false → x ≢ y
    differ x y not same = grind (arith, nat_tests)
differs_at x (y ∷ xs) (suc k) d all inside = differs_at x xs k d all.1 (omega arith)

written : (table : List Candidate) (slots : List ℕ) (place d : ℕ) (e : Candidate) → IsDistinct nat_eq slots
    → place < length slots → get_or slots place d < length table
    → in_slots (set table (get_or slots place d) e) slots ≡ set (in_slots table slots) place e
unfolding IsDistinct
written table [] place d e distinct inside low = absurd (omega arith)
written table (s ∷ slots) zero d e distinct inside low =
    λ i. get_or-set_same table s e blank_candidate low i ∷ in_slots-set table s e slots distinct.0 i
written table (s ∷ slots) (suc place) d e distinct inside low =
    λ i. get_or-set_other table (get_or slots place d) s e blank_candidate (differs_at s slots place d distinct.0 (omega arith)) i ∷ written table slots place d e distinct.1 (omega arith) low i

pub slot_low : (table : List Candidate) (order free : List ℕ) (place slot order_capacity free_capacity : ℕ)
    → IsSlotted table order free order_capacity free_capacity → place < length order → slot ≡ get_or order place slot
    → slot < length table
slot_low table order free place slot order_capacity free_capacity is inside there =
    let long = length-append order free in
    subst (λ s. s < length table) (get_or_append_left order free slot place inside ∙ sym there) (is.within place slot (omega arith))

pub slots_written : (table : List Candidate) (order free : List ℕ) (candidates : List Candidate) (place slot : ℕ) (order_capacity free_capacity : ℕ) (e : Candidate)
    → IsSlotted table order free order_capacity free_capacity → in_slots table order ≡ candidates → place < length order
    → slot < length table → slot ≡ get_or order place slot → in_slots (set table slot e) order ≡ set candidates place e
slots_written table order free candidates place slot order_capacity free_capacity e is view inside low there =
    ap (λ s. in_slots (set table s e) order) there
    ∙ written table order place slot e (front_distinct order free is.distinct) inside (subst (λ s. s < length table) there low)
    ∙ ap (λ es. set es place e) view

pub slot_candidate_is : (table : List Candidate) (order : List ℕ) (candidates : List Candidate) (place slot : ℕ)
    → in_slots table order ≡ candidates → place < length order → slot ≡ get_or order place slot
    → get_or table slot blank_candidate ≡ candidate_at candidates place
slot_candidate_is table order candidates place slot view inside there =
    sym (ap (λ es. candidate_at es place) (sym view) ∙ Rattle.std.proofs.lemmas.List.get_or-map (λ s. get_or table s blank_candidate) order place slot blank_candidate inside ∙ ap (λ s. get_or table s blank_candidate) (sym there))

-- candidates of one id are one
pub one_of_id : (es : List Candidate) (a b : Candidate) → AllPairs (λ x y. x.id ≢ y.id) es → Contains es a
    → Contains es b → a.id ≡ b.id → a ≡ b
one_of_id es a b apart (i, iin, ia) (j, jin, jb) same = elim (cases_lt i j) [
  | inl before ↦ absurd (apart i j a before jin (ap (λ x. x.id) ia ∙ same ∙ sym (ap (λ x. x.id) (jb_at a))))
  | inr not_before ↦ elim (cases_eq i j) [
    | inl equal ↦ sym ia ∙ ap (λ k. get_or es k a) equal ∙ jb_at a
    | inr other ↦ absurd (apart j i b (omega arith) iin (ap (λ x. x.id) jb ∙ sym same ∙ sym (ap (λ x. x.id) (ia_at b))))
  ]
]
  where
    jb_at : (d : Candidate) → get_or es j d ≡ b
    jb_at d = get_or_default es j d b jin ∙ jb

    ia_at : (d : Candidate) → get_or es i d ≡ a
    ia_at d = get_or_default es i d a iin ∙ ia

-- closing its tiebreaker makes no candidate greater
pub closed_upto : (number : ℕ) (e : Candidate) → e.key.tb ≡ None → upto (with_tiebreaker (Some number) e) e
closed_upto number e none greater =
    let was : e.key ≡ record e.key { tb = None } = (λ i. record e.key { tb = none i }) in
    let less : key_cmp (record e.key { tb = Some number }) e.key ≡ Less = ap (key_cmp (record e.key { tb = Some number })) was ∙ open_above e.key.domain e.key.ts number in
    let no_way : Less ≡ Greater =
    sym (ap (λ o. ordering_then o (ordering_then (ordering_then (nat_cmp e.tile e.tile) (nat_cmp e.arrival e.arrival)) (nat_cmp e.id e.id))) less)
    ∙ greater in
    cc (no_way)

-- the heap with another tiebreaker at one place
module _ (tb : Option ℕ) (id place : ℕ) (old new : List Candidate) (at : IsPlaceOfId id old place) (put : new ≡ set old place (with_tiebreaker tb (candidate_at old place))) where
  abbrev was : Candidate
  was = candidate_at old place

  pub inside : place < length old
  inside = slice_get_within old place at.candidate at.there

  long : length new ≡ length old
  long = ap length put ∙ length-set old place (with_tiebreaker tb was)

  pub inside_new : place < length new
  inside_new = omega (arith, long, inside)

  here : candidate_at new place ≡ with_tiebreaker tb was
  here = ap (λ es. candidate_at es place) put
      ∙ get_or-set_same old place (with_tiebreaker tb was) blank_candidate inside

  others : (k : ℕ) → k ≢ place → candidate_at new k ≡ candidate_at old k
  others k other = ap (λ es. candidate_at es k) put
      ∙ get_or-set_other old place k (with_tiebreaker tb was) blank_candidate other

  mine : was.id ≡ id
  mine = ap (λ e. e.id) (get_or_from_slice_get old place at.candidate blank_candidate at.there) ∙ at.id_is

  was_there : Contains old was
  was_there = (place, inside, get_or_default old place was blank_candidate inside)

  pub apart_tied : IsHeap old → IsHeapApart upto (candidate_at new) (length new) place
  apart_tied heap =
      subst (λ n. IsHeapApart upto (candidate_at new) n place) (sym long) (changed upto not_above_trans (candidate_at old) (candidate_at new) (length old) place others heap inside)

  pub up_tied : upto (with_tiebreaker tb was) was → IsHeap old → IsHeapUp upto (candidate_at new) (length new) place
  up_tied less heap =
      subst (λ n. IsHeapUp upto (candidate_at new) n place) (sym long) (lowered upto not_above_trans (candidate_at old) (candidate_at new) (length old) place others heap inside (subst (λ e. upto e was) (sym here) less))

  rest_same : remove new place ≡ remove old place
  rest_same =
      ap (λ es. remove es place) put
      ∙ (λ i. take-set-le place old place (with_tiebreaker tb was) (omega arith) i ++ drop-set-lt (suc place) old place (with_tiebreaker tb was) (omega arith) i)

  old_permuted : IsPermutation old (was ∷ remove old place)
  old_permuted = IsPermutation-remove old place was inside (sym (get_or_default old place was blank_candidate inside))

  new_permuted : IsPermutation new (with_tiebreaker tb was ∷ remove old place)
  new_permuted =
      subst (λ es. IsPermutation new (with_tiebreaker tb was ∷ es)) rest_same
      (IsPermutation-remove new place (with_tiebreaker tb was) inside_new (sym (get_or_default new place (with_tiebreaker tb was) blank_candidate inside_new ∙ here)))

  abbrev AreApart : List Candidate → Type 0
  AreApart es = IsDistinct (λ a b. nat_eq a.id b.id) es

  ids_tied : AreApart (was ∷ remove old place) → AreApart (with_tiebreaker tb was ∷ remove old place)
  unfolding IsDistinct
  ids_tied ids = ids

  module _ (final : List Candidate) (moved : IsPermutation new final) (heap : IsHeapIndex old) where
    pub ids_kept : AreApart final
    ids_kept =
        ids_permuted new final moved
        (ids_permuted (with_tiebreaker tb was ∷ remove old place) new (IsPermutation-sym new (with_tiebreaker tb was ∷ remove old place) new_permuted)
        (ids_tied (ids_permuted old (was ∷ remove old place) old_permuted heap.ids)))

    pub candidates_tied : (shown : List Candidate) → in_rising_order old ≡ shown
        → IsTied id tb shown (in_rising_order final)
    candidates_tied shown view e there same =
        let one : e ≡ was = one_of_id (in_rising_order old) e was (ids_in_order old heap.ids) (subst (λ es. Contains es e) (sym view) there) (Contains-permutation old (in_rising_order old) was (in_rising_order-permutes old) was_there) (same ∙ sym mine) in
        in_rising_order-permutation new final moved
        ∙ sym (in_rising_order-permutation new (with_tiebreaker tb was ∷ remove old place) new_permuted)
        ∙ ap (after_insert candidate_cmp (with_tiebreaker tb was)) (taken_out was old (remove old place) old_permuted heap.ids ∙ ap (λ n. without_candidate n (in_rising_order old)) mine ∙ ap (without_candidate id) view)
        ∙ ap (λ x. after_insert candidate_cmp (with_tiebreaker tb x) (without_candidate id shown)) (sym one)

    pub count_tied : (shown : List Candidate) → in_rising_order old ≡ shown
        → length (in_rising_order final) ≡ length shown
    count_tied shown view =
        length_permutation final (in_rising_order final) (in_rising_order-permutes final)
        ∙ length_permutation new final moved ∙ long
        ∙ sym (length_permutation old (in_rising_order old) (in_rising_order-permutes old)) ∙ ap length view

  -- what is there is open, where the candidate of its id is
  pub open_there : (shown : List Candidate) → in_rising_order old ≡ shown → IsHeapIndex old → IsOpenIn id shown
      → was.key.tb ≡ None
  open_there shown view heap is_open =
      let one : was ≡ is_open.candidate = one_of_id (in_rising_order old) was is_open.candidate (ids_in_order old heap.ids) (Contains-permutation old (in_rising_order old) was (in_rising_order-permutes old) was_there) (subst (λ es. Contains es is_open.candidate) (sym view) is_open.there) (mine ∙ sym is_open.id_is) in
      ap (λ e. e.key.tb) one ∙ is_open.open_tie

-- an id that is seen is there
pub seen_there : (id : ℕ) (old shown : List Candidate) → in_rising_order old ≡ shown → HasId id shown → HasId id old
seen_there id old shown view has =
    has_permuted id (in_rising_order old) old (IsPermutation-sym old (in_rising_order old) (in_rising_order-permutes old)) (subst (HasId id) (sym view) has)

pub open_has : (id : ℕ) (shown : List Candidate) → IsOpenIn id shown → HasId id shown
open_has id shown is_open = (is_open.there.0, is_open.candidate, is_open.there.1, is_open.there.2, is_open.id_is)
