-- Two candidates of a row of slots change places.
use Rattle.std.proofs.Common.{◌≡◌, ◌≢◌, ℕ, zero, suc, ◌+◌, ◌<◌, ◌≤◌, true, false, nat_eq, Some, slice_get, ◌*◌, ◌-◌}
use Rattle.std.proofs.Common.{take, drop, ◌⊎◌, inl, inr, List, [], ◌∷◌, ◌++◌, length, get_or, map, refl, sym, ap, subst}
use Rattle.std.proofs.Common.{◌∙◌, arith}
use Rattle.std.specs.List.{swap, remove}
use Rattle.std.specs.List.Sorted.{IsPermutation}
use Rattle.std.specs.Ordering.{is_lt, ordering_reverse}
use Rattle.std.specs.declared.cmp.Ordering.{Ordering}
use Rattle.std.specs.declared.cmp.Ordering.TheVariants.{Less, Equal, Greater}
use Rattle.std.proofs.lemmas.Bool.{cases_eq}
use Rattle.std.proofs.lemmas.List.{get_or_past, get_or_default, length-map, length-drop, nil_from_length, append-nil}
use Rattle.std.proofs.lemmas.Option.{get_or_from_slice_get}
use Rattle.std.proofs.lemmas.List.Edits.{swapped_from_swap, length-swap, length-remove, get_or-remove_below}
use Rattle.std.proofs.lemmas.List.Sorted.{IsPermutation-swap, IsPermutation-map, IsPermutation-append_left}
use Rattle.std.proofs.lemmas.List.Sorted.{All-permutation, IsPermutation-refl, IsPermutation-trans}
use Rattle.std.proofs.lemmas.List.Sorted.{IsPermutation-remove}
use Rattle.std.proofs.lemmas.Map.Keys.{IsDistinct-IsPermutation}
use Rattle.std.proofs.lemmas.Cmp.{nat_eq_equiv}
use Rattle.commit_arbiter.specs.declared.candidate.Candidate.{Candidate}
use Rattle.commit_arbiter.specs.Indexed.{candidate_cmp}
use Rattle.commit_arbiter.specs.Slots.{blank_candidate, in_slots, IsSlotted, candidate_at, HasSwapped}
use Rattle.commit_arbiter.specs.Heap.{parent, IsHeapBy, IsHeapUp, IsLeastChild, IsHeapApart, IsHeap, SiftsUpOnce}
use Rattle.commit_arbiter.specs.Heap.{SiftsDownOnce, upto as not_above}
use Rattle.commit_arbiter.proofs.Places.{candidate_cmp_total}
use Rattle.commit_arbiter.proofs.Heaps.{up_exchanged, up_end, apart_exchanged, apart_from}

get_mapped : {X Y : Type 0} (f : X → Y) (xs : List X) (k : ℕ) (d : X) → get_or (map f xs) k (f d) ≡ f (get_or xs k d)
get_mapped f [] k d = refl
get_mapped f (x ∷ xs) zero d = refl
get_mapped f (x ∷ xs) (suc k) d = get_mapped f xs k d

slot_candidate : (table : List Candidate) (order : List ℕ) (k : ℕ)
    → candidate_at (in_slots table order) k ≡ get_or table (get_or order k (length table)) blank_candidate
slot_candidate table order k =
    ap (get_or (in_slots table order) k) (sym (get_or_past table (length table) blank_candidate (omega arith)))
    ∙ get_mapped (λ slot. get_or table slot blank_candidate) order k (length table)

pub slots_swapped : (table : List Candidate) (old new : List ℕ) (candidates : List Candidate) (a b : ℕ)
    → in_slots table old ≡ candidates → new ≡ swap old a b → a < length candidates → b < length candidates
    → HasSwapped candidates (in_slots table new) a b
slots_swapped table old new candidates a b view is first second =
    subst (λ es. HasSwapped es (in_slots table new) a b) view (swapped (omega (arith, long, ap length view)) (omega (arith, long, ap length view)))
  where
    long : length (in_slots table old) ≡ length old
    long = length-map old (λ slot. get_or table slot blank_candidate)

    swapped : a < length old → b < length old → HasSwapped (in_slots table old) (in_slots table new) a b
    swapped one two =
        let moves = swapped_from_swap old new a b (length table) one two is in
        let read = λ (k : ℕ). slot_candidate table new k in
        record {
          long = length-map new (λ slot. get_or table slot blank_candidate) ∙ ap length is
              ∙ length-swap old a b ∙ sym long;
          first = slot_candidate table new a ∙ ap (λ s. get_or table s blank_candidate) moves.0
              ∙ sym (slot_candidate table old b);
          second = slot_candidate table new b ∙ ap (λ s. get_or table s blank_candidate) moves.1
              ∙ sym (slot_candidate table old a);
          others =
              λ k not_a not_b. slot_candidate table new k ∙ ap (λ s. get_or table s blank_candidate) (moves.2 k not_a not_b) ∙ sym (slot_candidate table old k);
          permuted =
              IsPermutation-map (λ slot. get_or table slot blank_candidate) old new (IsPermutation-swap old new a b one two is);
        }

pub slotted_swapped : (table : List Candidate) (old new free : List ℕ) (order_capacity free_capacity order_after : ℕ) (a b : ℕ)
    → IsSlotted table old free order_capacity free_capacity → a < length old → b < length old → new ≡ swap old a b
    → order_capacity ≤ order_after → IsSlotted table new free order_after free_capacity
slotted_swapped table old new free order_capacity free_capacity order_after a b is one two same more =
    let moved = IsPermutation-append_left free old new (IsPermutation-swap old new a b one two same) in
    let long : length new ≡ length old = ap length same ∙ length-swap old a b in
    let all = is.all in
    record {
      distinct =
          IsDistinct-IsPermutation nat_eq (λ x y. nat_eq_equiv.symm x y) (old ++ free) (new ++ free) moved is.distinct;
      within = All-permutation (λ s. s < length table) (old ++ free) (new ++ free) moved is.within;
      all = omega arith;
      order_holds = (let holds = is.order_holds in omega arith);
      free_holds = is.free_holds;
    }

-- candidates by their order

pub not_above_trans : (x y z : Candidate) → not_above x y → not_above y z → not_above x z
not_above_trans x y z one two = by_case (candidate_cmp x y) (candidate_cmp y z) refl refl one two
  where
    by_case : (o p : Ordering) → candidate_cmp x y ≡ o → candidate_cmp y z ≡ p → o ≢ Greater → p ≢ Greater
        → candidate_cmp x z ≢ Greater
    by_case Less Less ea eb a b =
        λ e. (let less = candidate_cmp_total.trans x y z ea eb in let no_way : Less ≡ Greater = sym less ∙ e in cc)
    by_case Less Equal ea eb a b =
        λ e. (let alike = Rattle.std.proofs.lemmas.Cmp.alike_right candidate_cmp_total y z x eb in let no_way : Less ≡ Greater = sym ea ∙ alike ∙ e in cc)
    by_case Equal Less ea eb a b =
        λ e. (let alike = candidate_cmp_total.congr x y z ea in let no_way : Less ≡ Greater = sym eb ∙ sym alike ∙ e in cc)
    by_case Equal Equal ea eb a b =
        λ e. (let alike = candidate_cmp_total.congr x y z ea in let no_way : Equal ≡ Greater = sym eb ∙ sym alike ∙ e in cc)
    by_case Greater p ea eb a b = absurd (a refl)
    by_case o Greater ea eb a b = absurd (b refl)

pub less_not_above : (x y : Candidate) → is_lt (candidate_cmp x y) ≡ true → not_above x y
less_not_above x y less e = let no_way : false ≡ true = ap is_lt (sym e) ∙ less in cc

pub not_less_above : (x y : Candidate) → is_lt (candidate_cmp x y) ≡ false → not_above y x
not_less_above x y not e =
    let less : candidate_cmp x y ≡ Less = candidate_cmp_total.antisymm x y ∙ ap ordering_reverse e in
    let no_way : true ≡ false = sym (ap is_lt less) ∙ not in
    cc

module _ (old new : List Candidate) (at : ℕ) (x y : Candidate) (pos : 0 < at) (inside : at < length old) (heap : IsHeapUp not_above (candidate_at old) (length old) at) (here : slice_get old at ≡ Some x) (above : slice_get old (parent at) ≡ Some y) where
  read_here : x ≡ candidate_at old at
  read_here = sym (get_or_from_slice_get old at x blank_candidate here)

  read_above : y ≡ candidate_at old (parent at)
  read_above = sym (get_or_from_slice_get old (parent at) y blank_candidate above)

  -- a sift up that exchanges two candidates, and one that doesn't
  pub sifted_up_once : is_lt (candidate_cmp x y) ≡ true → HasSwapped old new at (parent at)
      → SiftsUpOnce old new at true
  sifted_up_once less swapped = record {
    long = swapped.long;
    permuted = swapped.permuted;
    up = λ _. subst (λ n. IsHeapUp not_above (candidate_at new) n (parent at)) (sym swapped.long)
        (up_exchanged not_above not_above_trans (candidate_at old) (candidate_at new) (length old) at heap pos inside
        (subst (λ e. not_above e (candidate_at old (parent at))) read_here (subst (not_above x) read_above (less_not_above x y less)))
        (swapped.first, swapped.second, swapped.others));
    all = λ no_way. absurd (cc (no_way));
  }

  pub stayed_up : is_lt (candidate_cmp x y) ≡ false → SiftsUpOnce old old at false
  stayed_up not = record {
    long = refl;
    permuted = IsPermutation-refl old;
    up = λ no_way. absurd (cc (no_way));
    all = λ _. up_end not_above not_above_trans (candidate_at old) (length old) at heap
        (λ _. subst (λ e. not_above e (candidate_at old at)) read_above (subst (not_above y) read_here (not_less_above x y not)));
  }

pub itself : (x : Candidate) → not_above x x
itself x e =
    let no_way : Equal ≡ Greater = sym (Rattle.std.proofs.lemmas.Cmp.tied_itself candidate_cmp_total x) ∙ e in cc

module _ (candidates : List Candidate) (at left : ℕ) (is : left ≡ 2 * at + 1) (inside : left < length candidates) where
  -- the left child alone
  pub left_alone : length candidates ≤ left + 1 → IsLeastChild candidates at left
  left_alone short = record {
    pos = omega arith;
    inside = inside;
    child = omega arith;
    least =
        λ k kpos kin child. (let same : k ≡ left = omega arith in subst (λ m. not_above (candidate_at candidates left) (candidate_at candidates m)) (sym same) (itself (candidate_at candidates left)));
  }

  -- where one of two is not greater than the other, it is not greater than either
  upto_both : (c other : ℕ) → not_above (candidate_at candidates c) (candidate_at candidates other)
      → (k : ℕ) → (k ≡ c) ⊎ (k ≢ c) → (k ≢ c → k ≡ other)
      → not_above (candidate_at candidates c) (candidate_at candidates k)
  upto_both c other below k (inl same) differ =
      subst (λ m. not_above (candidate_at candidates c) (candidate_at candidates m)) (sym same)
      (itself (candidate_at candidates c))
  upto_both c other below k (inr not) differ =
      subst (λ m. not_above (candidate_at candidates c) (candidate_at candidates m)) (sym (differ not)) below

  -- the one of two that is not greater
  pub of_two : (c other : ℕ) → (c ≡ left) × (other ≡ left + 1) ⊎ (c ≡ left + 1) × (other ≡ left) → c < length candidates
      → not_above (candidate_at candidates c) (candidate_at candidates other) → IsLeastChild candidates at c
  of_two c other (inl (mine, theirs)) cin below = record {
    pos = omega arith;
    inside = cin;
    child = omega arith;
    least = λ k kpos kin child. upto_both c other below k (cases_eq k c) (omega arith);
  }
  of_two c other (inr (mine, theirs)) cin below = record {
    pos = omega arith;
    inside = cin;
    child = omega arith;
    least = λ k kpos kin child. upto_both c other below k (cases_eq k c) (omega arith);
  }

-- one exchange down
pub sifted_down_once : (old new : List Candidate) (at c : ℕ) → IsHeapApart not_above (candidate_at old) (length old) at
    → IsLeastChild old at c → HasSwapped old new at c → SiftsDownOnce old new at c
sifted_down_once old new at c heap is swapped = record {
  long = swapped.long;
  permuted = swapped.permuted;
  inside = (let long = swapped.long in let inside = is.inside in omega arith);
  below = (let low = is.child in let pos = is.pos in omega arith);
  apart = subst (λ n. IsHeapApart not_above (candidate_at new) n c) (sym swapped.long)
      (apart_exchanged not_above not_above_trans (candidate_at old) (candidate_at new) (length old) at c heap is.pos is.inside is.child is.least (swapped.first, swapped.second, swapped.others));
}

pub at_both : (es : List Candidate) (i j : ℕ) (x y : Candidate) → slice_get es i ≡ Some x → slice_get es j ≡ Some y
    → not_above x y → not_above (candidate_at es i) (candidate_at es j)
at_both es i j x y one two below =
    subst (λ e. not_above e (candidate_at es j)) (sym (get_or_from_slice_get es i x blank_candidate one)) (subst (not_above x) (sym (get_or_from_slice_get es j y blank_candidate two)) below)

-- taking out the last after the exchange
pub apart_after : (old swapped new : List Candidate) (place last : ℕ)
    → IsHeapBy not_above (candidate_at old) (length old) → HasSwapped old swapped place last → new ≡ remove swapped last
    → last + 1 ≡ length old → place < last → IsHeapApart not_above (candidate_at new) (length new) place
apart_after old swapped new place last heap is left ends inside =
    let short : length new + 1 ≡ length swapped = (let gone = length-remove swapped last (let long = is.long in omega arith) in let same = ap length left in omega arith) in
    let many : length new ≡ last = (let long = is.long in omega arith) in
    subst (λ n. IsHeapApart not_above (candidate_at new) n place) (sym many)
    (apart_from not_above not_above_trans (candidate_at old) (candidate_at new) last place
    (λ k kin differ. ap (λ es. candidate_at es k) left ∙ get_or-remove_below swapped last blank_candidate k kin (let long = is.long in omega arith) ∙ is.others k differ (λ e. (let no_way : ⊥ = omega arith in no_way)))
    (subst (IsHeapBy not_above (candidate_at old))
    (let same : length old ≡ suc last = omega arith in same) heap) inside)

pub heap_after : (old swapped new : List Candidate) (place last : ℕ)
    → IsHeapBy not_above (candidate_at old) (length old) → HasSwapped old swapped place last → new ≡ remove swapped last
    → last + 1 ≡ length old → place ≡ last → IsHeap new
heap_after old swapped new place last heap is left ends here k kpos kin =
    let short : length new + 1 ≡ length swapped = (let gone = length-remove swapped last (let long = is.long in omega arith) in let same = ap length left in omega arith) in
    let many : length new ≡ last = (let long = is.long in omega arith) in
    let stays : (m : ℕ) → m < last → candidate_at new m ≡ candidate_at old m = (λ m min. ap (λ es. candidate_at es m) left ∙ get_or-remove_below swapped last blank_candidate m min (let long = is.long in omega arith) ∙ is.others m (λ e. (let no_way : ⊥ = omega arith in no_way)) (λ e. (let no_way : ⊥ = omega arith in no_way))) in
    subst (λ e. not_above e (candidate_at new k)) (sym (stays (parent k) (omega arith))) (subst (not_above (candidate_at old (parent k))) (sym (stays k (omega arith))) (heap k kpos (omega arith)))

pub permuted_after : (old swapped new : List Candidate) (place last : ℕ) → HasSwapped old swapped place last
    → new ≡ remove swapped last → last + 1 ≡ length old → IsPermutation old (candidate_at old place ∷ new)
permuted_after old swapped new place last is left ends =
    IsPermutation-trans old swapped (candidate_at old place ∷ new) is.permuted
    (subst (λ es. IsPermutation swapped (candidate_at old place ∷ es)) (sym left)
    (subst (λ e. IsPermutation swapped (e ∷ remove swapped last)) is.second
    (IsPermutation-remove swapped last (candidate_at swapped last) (let long = is.long in omega arith) (get_or_default swapped last blank_candidate (candidate_at swapped last) (let long = is.long in omega arith)))))

-- the list without its last is the list with that place taken out
pub dropped : (old new : List Candidate) (last : ℕ) → new ≡ take (length old - 1) old → last + 1 ≡ length old
    → new ≡ remove old last
dropped old new last is ends =
    is ∙ ap (λ n. take n old) (let at : length old - 1 ≡ last = omega arith in at)
    ∙ sym (ap (λ rest. take last old ++ rest) (nil_from_length (drop (suc last) old) (let short = length-drop (suc last) old in omega arith)) ∙ append-nil (take last old))
