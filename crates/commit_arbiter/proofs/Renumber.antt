-- Candidates whose keys are renumbered, in slots and in a heap.
use Rattle.std.proofs.Common.{◌≡◌, ◌≢◌, ℕ, zero, suc, List, [], ◌∷◌, map, get_or, refl, sym, ap, subst, ◌∙◌, ◌<◌, Bool}
use Rattle.std.proofs.Common.{true, false, nat_eq, length, arith}
use Rattle.std.specs.List.{All, AllByRecursion, IsDistinct}
use Rattle.std.specs.Ordering.{nat_cmp, ordering_then, is_lt}
use Rattle.std.specs.declared.cmp.Ordering.TheVariants.{Greater}
use Rattle.fractal_vt.specs.Renumbered.{HoldsKey}
use Rattle.fractal_vt.proofs.Proved.{keeps_order}
use Rattle.commit_arbiter.specs.declared.candidate.Candidate.{Candidate}
use Rattle.commit_arbiter.specs.Indexed.{candidate_cmp, renumbered_candidate}
use Rattle.commit_arbiter.specs.Slots.{blank_candidate, in_slots, candidate_at}
use Rattle.std.specs.Bool.{if◌then◌else◌}
use Rattle.std.proofs.lemmas.List.{length-map}
use Rattle.std.proofs.lemmas.List.Elements.{All-head, All-tail}
use Rattle.std.proofs.lemmas.List.Sorted.{All-permutation, IsPermutation-sym}
use Rattle.fractal_vt.specs.Sorted.{after_insert}
use Rattle.commit_arbiter.specs.Heap.{parent, IsHeapBy, IsHeapIndex, in_rising_order, upto}
use Rattle.commit_arbiter.proofs.Ordered.{in_rising_order-permutes}

pub get_renumbered : (table : List ℕ) (candidates : List Candidate) (k : ℕ)
    → get_or (map (renumbered_candidate table) candidates) k blank_candidate ≡ renumbered_candidate table (get_or candidates k blank_candidate)
get_renumbered table [] k = refl
get_renumbered table (e ∷ candidates) zero = refl
get_renumbered table (e ∷ candidates) (suc k) = get_renumbered table candidates k

-- the candidates of a renumbered table
pub slots_renumbered : (table : List ℕ) (candidates : List Candidate) (slots : List ℕ)
    → in_slots (map (renumbered_candidate table) candidates) slots ≡ map (renumbered_candidate table) (in_slots candidates slots)
slots_renumbered table candidates [] = refl
slots_renumbered table candidates (s ∷ slots) =
    λ i. get_renumbered table candidates s i ∷ slots_renumbered table candidates slots i

pub candidate_kept : (table : List ℕ) (a b : Candidate) → HoldsKey table a.key → HoldsKey table b.key
    → candidate_cmp (renumbered_candidate table a) (renumbered_candidate table b) ≡ candidate_cmp a b
candidate_kept table a b in_a in_b =
    ap (λ o. ordering_then o (ordering_then (ordering_then (nat_cmp a.tile b.tile) (nat_cmp a.arrival b.arrival)) (nat_cmp a.id b.id))) (keeps_order table a.key b.key in_a in_b)

-- a heap whose candidates are renumbered
module _ (table : List ℕ) where
  abbrev Held : Candidate → Type 0
  Held e = HoldsKey table e.key

  inserted_renumbered : (x : Candidate) (ys : List Candidate) → Held x → All Held ys
      → after_insert candidate_cmp (renumbered_candidate table x) (map (renumbered_candidate table) ys) ≡ map (renumbered_candidate table) (after_insert candidate_cmp x ys)
  inserted_renumbered x [] held all = refl
  inserted_renumbered x (y ∷ ys) held all =
      ap (λ o. if is_lt o then renumbered_candidate table x ∷ renumbered_candidate table y ∷ map (renumbered_candidate table) ys else renumbered_candidate table y ∷ after_insert candidate_cmp (renumbered_candidate table x) (map (renumbered_candidate table) ys))
      (candidate_kept table x y held (All-head Held y ys all))
      ∙ by_case (is_lt (candidate_cmp x y)) (inserted_renumbered x ys held (All-tail Held y ys all))
    where
      by_case : (b : Bool)
          → after_insert candidate_cmp (renumbered_candidate table x) (map (renumbered_candidate table) ys) ≡ map (renumbered_candidate table) (after_insert candidate_cmp x ys)
          → (if b then renumbered_candidate table x ∷ renumbered_candidate table y ∷ map (renumbered_candidate table) ys else renumbered_candidate table y ∷ after_insert candidate_cmp (renumbered_candidate table x) (map (renumbered_candidate table) ys))
          ≡ map (renumbered_candidate table) (if b then x ∷ y ∷ ys else y ∷ after_insert candidate_cmp x ys)
      by_case true more = refl
      by_case false more = ap (λ zs. renumbered_candidate table y ∷ zs) more

  pub ordered_renumbered : (es : List Candidate) → All Held es
      → in_rising_order (map (renumbered_candidate table) es) ≡ map (renumbered_candidate table) (in_rising_order es)
  ordered_renumbered [] all = refl
  ordered_renumbered (e ∷ es) all =
      ap (after_insert candidate_cmp (renumbered_candidate table e)) (ordered_renumbered es (All-tail Held e es all))
      ∙ inserted_renumbered e (in_rising_order es) (All-head Held e es all) (All-permutation Held es (in_rising_order es) (in_rising_order-permutes es) (All-tail Held e es all))

  others_renumbered : (e : Candidate) (es : List Candidate) → AllByRecursion (λ x. nat_eq e.id x.id ≡ false) es
      → AllByRecursion (λ x. nat_eq e.id x.id ≡ false) (map (renumbered_candidate table) es)
  others_renumbered e [] all = tt
  others_renumbered e (x ∷ es) all = (all.0, others_renumbered e es all.1)

  ids_renumbered : (es : List Candidate) → IsDistinct (λ a b. nat_eq a.id b.id) es
      → IsDistinct (λ a b. nat_eq a.id b.id) (map (renumbered_candidate table) es)
  unfolding IsDistinct
  ids_renumbered [] ids = tt
  ids_renumbered (e ∷ es) ids = (others_renumbered e es ids.0, ids_renumbered es ids.1)

  pub heap_renumbered : (es : List Candidate) → All Held es → IsHeapIndex es
      → IsHeapIndex (map (renumbered_candidate table) es)
  heap_renumbered es held is = record { heap = heap; ids = ids_renumbered es is.ids }
    where
      long : length (map (renumbered_candidate table) es) ≡ length es
      long = length-map es (renumbered_candidate table)

      at : (k : ℕ) → k < length es → Held (candidate_at es k)
      at k inside = held k blank_candidate inside

      below : (k : ℕ) → 0 < k → k < length es → parent k < length es
      below k pos inside = omega arith

      heap : IsHeapBy upto (candidate_at (map (renumbered_candidate table) es))
          (length (map (renumbered_candidate table) es))
      heap k pos inside =
          let kin : k < length es = omega (arith, long) in
          subst (λ e. upto e (candidate_at (map (renumbered_candidate table) es) k))
          (sym (get_renumbered table es (parent k)))
          (subst (upto (renumbered_candidate table (candidate_at es (parent k)))) (sym (get_renumbered table es k))
          (subst (λ o. o ≢ Greater) (sym (candidate_kept table (candidate_at es (parent k)) (candidate_at es k) (at (parent k) (below k pos kin)) (at k kin))) (is.heap k pos kin)))

  pub held_inside : (es shown : List Candidate) → in_rising_order es ≡ shown → All Held shown → All Held es
  held_inside es shown view all =
      All-permutation Held (in_rising_order es) es (IsPermutation-sym es (in_rising_order es) (in_rising_order-permutes es)) (subst (All Held) (sym view) all)
