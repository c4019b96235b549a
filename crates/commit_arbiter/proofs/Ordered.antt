-- The candidates of a heap in their order.
use Rattle.std.proofs.Common.{◌≡◌, ◌≢◌, ℕ, suc, Bool, true, false, not, cond, nat_eq, ◌==◌, List, [], ◌∷◌, ◌++◌, length}
use Rattle.std.proofs.Common.{get_or, Some, slice_get, refl, sym, ap, subst, ◌∙◌, arith}
use Rattle.std.specs.Bool.{if◌then◌else◌}
use Rattle.std.specs.List.{All, AllPairs, AllByRecursion, IsDistinct, insert}
use Rattle.std.specs.List.Sorted.{IsPermutation}
use Rattle.std.specs.FinMap.{nat_cmp-IsAntisymmetric}
use Rattle.std.specs.Ordering.{nat_cmp, ordering_then, is_lt}
use Rattle.std.specs.declared.cmp.Ordering.TheVariants.{Less, Equal, Greater}
use Rattle.std.proofs.lemmas.Bool.Decides.{nat_tests}
use Rattle.std.proofs.lemmas.Cmp.{nat_eq_equiv}
use Rattle.std.proofs.lemmas.List.Edits.{length-insert, get_or-insert_below, insert_end}
use Rattle.std.proofs.lemmas.List.Elements.{All-nil, All-cons, All-head, All-tail, All-map}
use Rattle.std.proofs.lemmas.List.Sorted.{IsPermutation-refl, IsPermutation-cons, IsPermutation-trans}
use Rattle.std.proofs.lemmas.List.Sorted.{IsPermutation-insert, All-permutation, Contains-permutation}
use Rattle.std.proofs.lemmas.List.Sorted.{length_permutation}
use Rattle.std.proofs.lemmas.Map.Keys.{IsDistinct-IsPermutation, IsDistinct-head, IsDistinct-cons}
use Rattle.fractal_vt.specs.Keys.{key_cmp}
use Rattle.fractal_vt.specs.Sorted.{after_insert}
use Rattle.fractal_vt.proofs.Proved.{AllPairs-head, equal_keys_tie, front-after_insert, in_order-after_insert, in_turn}
use Rattle.fractal_vt.proofs.Proved.{in_turn-permutation, after_insert-permutes}
use Rattle.fractal_vt.specs.Sorted.{IsInOrder}
use Rattle.fractal_vt.specs.Least.{IsFirstLeast}
use Rattle.fractal_vt.proofs.Proved.{both_equal}
use Rattle.std.specs.Option.{IsSome}
use Rattle.std.proofs.lemmas.List.Kept.{AllPairs-cons}
use Rattle.commit_arbiter.specs.declared.candidate.Candidate.{Candidate}
use Rattle.commit_arbiter.specs.Indexed.{candidate_cmp, HasId, without_candidate, first_id, keys, IndexOrderIsOne}
use Rattle.commit_arbiter.specs.Slots.{blank_candidate, candidate_at}
use Rattle.commit_arbiter.specs.Heap.{IsHeapBy, IsHeapUp, IsHeapIndex, in_rising_order, upto}
use Rattle.commit_arbiter.proofs.Places.{candidate_cmp_total, without_none, no_id}
use Rattle.commit_arbiter.proofs.Heaps.{grown, root_least}
use Rattle.commit_arbiter.proofs.Swaps.{not_above_trans, itself}

pub candidate_cmp-same : (a b : Candidate) → candidate_cmp a b ≡ Equal → a ≡ b
candidate_cmp-same a b e =
    let one = both_equal (key_cmp a.key b.key) (ordering_then (ordering_then (nat_cmp a.tile b.tile) (nat_cmp a.arrival b.arrival)) (nat_cmp a.id b.id)) e in
    let two = both_equal (ordering_then (nat_cmp a.tile b.tile) (nat_cmp a.arrival b.arrival)) (nat_cmp a.id b.id) one.1 in
    let three = both_equal (nat_cmp a.tile b.tile) (nat_cmp a.arrival b.arrival) two.0 in
    let key : a.key ≡ b.key = (equal_keys_tie a.key b.key).0 one.0 in
    let tile : a.tile ≡ b.tile = nat_cmp-IsAntisymmetric a.tile b.tile three.0 in
    let arrival : a.arrival ≡ b.arrival = nat_cmp-IsAntisymmetric a.arrival b.arrival three.1 in
    let id : a.id ≡ b.id = nat_cmp-IsAntisymmetric a.id b.id two.1 in
    λ i. record { key = key i; tile = tile i; arrival = arrival i; id = id i }

ordered_is : (xs : List Candidate)
    → in_rising_order xs ≡ in_turn candidate_cmp candidate_cmp_total candidate_cmp-same xs
ordered_is [] = refl
ordered_is (x ∷ xs) = ap (after_insert candidate_cmp x) (ordered_is xs)

pub in_rising_order-permutation : (xs ys : List Candidate) → IsPermutation xs ys
    → in_rising_order ys ≡ in_rising_order xs
in_rising_order-permutation xs ys permuted =
    ordered_is ys ∙ in_turn-permutation candidate_cmp candidate_cmp_total candidate_cmp-same xs ys permuted
    ∙ sym (ordered_is xs)

pub in_rising_order-permutes : (xs : List Candidate) → IsPermutation xs (in_rising_order xs)
in_rising_order-permutes [] = IsPermutation-refl []
in_rising_order-permutes (x ∷ xs) =
    IsPermutation-trans (x ∷ xs) (x ∷ in_rising_order xs) (in_rising_order (x ∷ xs)) (IsPermutation-cons x xs (in_rising_order xs) (in_rising_order-permutes xs)) (after_insert-permutes candidate_cmp x (in_rising_order xs))

pub has_permuted : (id : ℕ) (xs ys : List Candidate) → IsPermutation xs ys → HasId id xs → HasId id ys
has_permuted id xs ys permuted (k, e, inside, at, is) =
    let there = Contains-permutation xs ys e permuted (k, inside, at) in (there.0, e, there.1, there.2, is)

-- a heap with one more at its end
pub heap_grown : (old new : List Candidate) (e : Candidate) → new ≡ old ++ e ∷ []
    → IsHeapBy upto (candidate_at old) (length old) → IsHeapUp upto (candidate_at new) (length new) (length old)
heap_grown old new e put heap =
    let is : new ≡ insert old (length old) e = put ∙ sym (insert_end old e) in
    let long : length new ≡ suc (length old) = (let more = length-insert old (length old) e (omega arith) in let same = ap length is in omega arith) in
    subst (λ n. IsHeapUp upto (candidate_at new) n (length old)) (sym long)
    (grown upto not_above_trans (candidate_at old) (candidate_at new) (length old) (λ k inside. ap (λ es. candidate_at es k) is ∙ get_or-insert_below old (length old) e blank_candidate k inside (omega arith)) heap)

abbrev same_id : Candidate → Candidate → Bool
same_id a b = nat_eq a.id b.id

by_recursion : (e : Candidate) (xs : List Candidate) → All (λ x. e.id ≢ x.id) xs
    → AllByRecursion (λ x. same_id e x ≡ false) xs
by_recursion e [] all = tt
by_recursion e (x ∷ xs) all =
    (differ e.id x.id (All-head (λ x. e.id ≢ x.id) x xs all), by_recursion e xs (All-tail (λ x. e.id ≢ x.id) x xs all))
  where
    differ : (m n : ℕ) → m ≢ n → nat_eq m n ≡ false
    differ m n not = grind (arith, nat_tests)

from_recursion : (e : Candidate) (xs : List Candidate) → AllByRecursion (λ x. same_id e x ≡ false) xs
    → All (λ x. x.id ≢ e.id) xs
from_recursion e [] all = All-nil (λ x. x.id ≢ e.id)
from_recursion e (x ∷ xs) all = All-cons (λ x. x.id ≢ e.id) x xs (differ e.id x.id all.0) (from_recursion e xs all.1)
  where
    differ : (m n : ℕ) → nat_eq m n ≡ false → n ≢ m
    differ m n not same = grind (arith, nat_tests)

pub ids_permuted : (xs ys : List Candidate) → IsPermutation xs ys → IsDistinct same_id xs → IsDistinct same_id ys
ids_permuted xs ys permuted ids =
    IsDistinct-IsPermutation same_id (λ a b. nat_eq_equiv.symm a.id b.id) xs ys permuted ids

-- a candidate goes into a heap
pub ids_grown : (e : Candidate) (old new : List Candidate) → (HasId e.id (in_rising_order old) → ⊥)
    → IsPermutation (e ∷ old) new → IsDistinct same_id old → IsDistinct same_id new
ids_grown e old new none permuted ids =
    let others : All (λ x. e.id ≢ x.id) old = no_id e.id old (λ has. none (has_permuted e.id old (in_rising_order old) (in_rising_order-permutes old) has)) e refl in
    ids_permuted (e ∷ old) new permuted (IsDistinct-cons same_id e old (by_recursion e old others) ids)

pub put_in_heap : (e : Candidate) (old grown new : List Candidate) → grown ≡ old ++ e ∷ [] → IsPermutation grown new
    → IsPermutation (e ∷ old) new
put_in_heap e old grown new is permuted =
    IsPermutation-trans (e ∷ old) grown new (subst (IsPermutation (e ∷ old)) (insert_end old e ∙ sym is) (IsPermutation-insert old (length old) e)) permuted

-- a number passes the test against itself
itself_is : (n : ℕ) → n == n ≡ true
itself_is n = grind (arith, nat_tests)

-- a candidate goes out of a heap
without_inserted : (x : Candidate) (ys : List Candidate) → All (λ y. y.id ≢ x.id) ys
    → without_candidate x.id (after_insert candidate_cmp x ys) ≡ ys
without_inserted x [] all = gone (x.id == x.id) (itself_is x.id)
  where
    gone : (b : Bool) → b ≡ true → cond (not b) (x ∷ []) [] ≡ []
    gone true sure = refl
    gone false sure = absurd (cc (sure))
without_inserted x (y ∷ ys) all =
    by_case (is_lt (candidate_cmp x y)) (without_inserted x ys (All-tail (λ y. y.id ≢ x.id) y ys all)) (without_none x.id (y ∷ ys) all)
  where
    differ_is : (m n : ℕ) → m ≢ n → m == n ≡ false
    differ_is m n not = grind (arith, nat_tests)

    gone : (b : Bool) → b ≡ true → without_candidate x.id (y ∷ ys) ≡ y ∷ ys
        → cond (not b) (x ∷ without_candidate x.id (y ∷ ys)) (without_candidate x.id (y ∷ ys)) ≡ y ∷ ys
    gone true sure all_stay = all_stay
    gone false sure all_stay = absurd (cc (sure))

    stays : (b : Bool) → b ≡ false → without_candidate x.id (after_insert candidate_cmp x ys) ≡ ys
        → cond (not b) (y ∷ without_candidate x.id (after_insert candidate_cmp x ys)) (without_candidate x.id (after_insert candidate_cmp x ys)) ≡ y ∷ ys
    stays true sure more = absurd (cc (sure))
    stays false sure more = ap (λ zs. y ∷ zs) more

    by_case : (b : Bool) → without_candidate x.id (after_insert candidate_cmp x ys) ≡ ys
        → without_candidate x.id (y ∷ ys) ≡ y ∷ ys
        → without_candidate x.id (if b then x ∷ y ∷ ys else y ∷ after_insert candidate_cmp x ys) ≡ y ∷ ys
    by_case true more all_stay = gone (x.id == x.id) (itself_is x.id) all_stay
    by_case false more all_stay = stays (y.id == x.id) (differ_is y.id x.id (All-head (λ y. y.id ≢ x.id) y ys all)) more

pub taken_ids : (x : Candidate) (old new : List Candidate) → IsPermutation old (x ∷ new) → IsDistinct same_id old
    → IsDistinct same_id new
taken_ids x old new permuted ids =
    Rattle.std.proofs.lemmas.Map.Keys.IsDistinct-tail same_id x new (ids_permuted old (x ∷ new) permuted ids)

pub taken_out : (x : Candidate) (old new : List Candidate) → IsPermutation old (x ∷ new) → IsDistinct same_id old
    → in_rising_order new ≡ without_candidate x.id (in_rising_order old)
taken_out x old new permuted ids =
    let others = from_recursion x new (IsDistinct-head same_id x new (ids_permuted old (x ∷ new) permuted ids)) in
    sym (ap (without_candidate x.id) (sym (in_rising_order-permutation old (x ∷ new) permuted)) ∙ without_inserted x (in_rising_order new) (All-permutation (λ y. y.id ≢ x.id) new (in_rising_order new) (in_rising_order-permutes new) others))

-- the first is the root
pub first_is_root : (candidates : List Candidate) (root : Candidate)
    → IsHeapBy upto (candidate_at candidates) (length candidates) → slice_get candidates 0 ≡ Some root
    → Some root.id ≡ first_id (in_rising_order candidates)
first_is_root [] root heap there = absurd (cc (there))
first_is_root (e ∷ candidates) root heap there =
    let same : e ≡ root = cc in
    let least : All (upto e) candidates = (λ k d inside. subst (upto e) (Rattle.std.proofs.lemmas.List.get_or_default candidates k blank_candidate d inside) (root_least upto not_above_trans itself (candidate_at (e ∷ candidates)) (length (e ∷ candidates)) heap (suc k) (suc k) (omega arith) (omega arith))) in
    ap (λ x. Some x.id) (sym same)
    ∙ sym (ap first_id (front-after_insert candidate_cmp candidate_cmp_total candidate_cmp-same e (in_rising_order candidates) (All-permutation (upto e) candidates (in_rising_order candidates) (in_rising_order-permutes candidates) least)))

pub empty_heap : IsHeapIndex []
unfolding IsDistinct
empty_heap = record { heap = λ k pos inside. absurd (omega arith); ids = tt }

pub as_long : (es shown : List Candidate) → in_rising_order es ≡ shown → length shown ≡ length es
as_long es shown view = ap length (sym view) ∙ length_permutation es (in_rising_order es) (in_rising_order-permutes es)

-- the candidates in their order
pub in_rising_order-in_order : (es : List Candidate) → IsInOrder candidate_cmp (in_rising_order es)
in_rising_order-in_order [] = λ i j d before inside. absurd (omega arith)
in_rising_order-in_order (e ∷ es) =
    in_order-after_insert candidate_cmp candidate_cmp_total e (in_rising_order es) (in_rising_order-in_order es)

pub ids_apart : (es : List Candidate) → IsDistinct same_id es → AllPairs (λ a b. a.id ≢ b.id) es
unfolding IsDistinct
ids_apart [] ids = λ i j d before inside. absurd (omega arith)
ids_apart (e ∷ es) ids =
    AllPairs-cons (λ a b. a.id ≢ b.id) e es (λ k d inside same. from_recursion e es ids.0 k d inside (sym same)) (ids_apart es ids.1)

pub ids_in_order : (es : List Candidate) → IsDistinct same_id es → AllPairs (λ a b. a.id ≢ b.id) (in_rising_order es)
ids_in_order es ids =
    ids_apart (in_rising_order es) (ids_permuted es (in_rising_order es) (in_rising_order-permutes es) ids)

-- the first candidate has the first of the least keys
key_upto : (a b : Candidate) → candidate_cmp a b ≢ Greater → key_cmp a.key b.key ≢ Greater
key_upto a b upto greater =
    upto (ap (λ o. ordering_then o (ordering_then (ordering_then (nat_cmp a.tile b.tile) (nat_cmp a.arrival b.arrival)) (nat_cmp a.id b.id))) greater)

pub head_is_least : (e : Candidate) (es : List Candidate) → IsInOrder candidate_cmp (e ∷ es)
    → IsFirstLeast key_cmp (keys (e ∷ es)) 0
head_is_least e es order = record {
  key = e.key;
  there = refl;
  least = All-cons (λ key. key_cmp e.key key ≢ Greater) e.key (keys es)
      (λ greater. itself e (ap (λ o. ordering_then o (ordering_then (ordering_then (nat_cmp e.tile e.tile) (nat_cmp e.arrival e.arrival)) (nat_cmp e.id e.id))) greater))
      (All-map (λ key. key_cmp e.key key ≢ Greater) (λ x. x.key) es (λ k d inside. key_upto e (get_or es k d) (AllPairs-head (λ a b. candidate_cmp a b ≢ Greater) e es order k d inside)));
  first = All-nil (λ key. key_cmp e.key key ≡ Less);
}

pub first_is_least : (es : List Candidate) → IsSome (first_id es) → IsInOrder candidate_cmp es
    → IsFirstLeast key_cmp (keys es) 0
first_is_least [] some order = absurd (cc (some))
first_is_least (e ∷ es) some order = head_is_least e es order

pub one_order : IndexOrderIsOne
one_order = Rattle.fractal_vt.proofs.InTurn.order_is_one candidate_cmp candidate_cmp_total candidate_cmp-same
