-- How many candidates have a closed tiebreaker.
use Rattle.std.proofs.Common.{◌≡◌, ◌≢◌, ◌⊎◌, ℕ, zero, suc, ◌+◌, ◌<◌, ◌≤◌, cond, Option, Some, None, List, [], ◌∷◌}
use Rattle.std.proofs.Common.{length, map, get_or, set, option_map, refl, sym, ap, ◌∙◌, inl, inr, arith}
use Rattle.std.specs.Prelude.{Contains, IsSome}
use Rattle.std.specs.List.Sorted.{IsPermutation}
use Rattle.std.proofs.lemmas.List.Sums.{sum_by-cons, sum_by-set}
use Rattle.std.proofs.lemmas.List.Sorted.{sum_by-IsPermutation}
use Rattle.fractal_vt.specs.Renumbered.{place_in}
use Rattle.commit_arbiter.specs.declared.candidate.Candidate.{Candidate}
use Rattle.commit_arbiter.specs.Indexed.{one_closed, closed_in, with_tiebreaker, renumbered_candidate}
use Rattle.commit_arbiter.specs.Slots.{blank_candidate, candidate_at}
use Rattle.commit_arbiter.specs.Heap.{in_rising_order}
use Rattle.commit_arbiter.proofs.Ordered.{in_rising_order-permutes}

permuted_closed : (xs ys : List Candidate) → IsPermutation xs ys → closed_in ys ≡ closed_in xs
permuted_closed xs ys = sum_by-IsPermutation (λ (e : Candidate). one_closed e.key.tb) xs ys

cons_closed : (e : Candidate) (es : List Candidate) → closed_in (e ∷ es) ≡ one_closed e.key.tb + closed_in es
cons_closed e es = sum_by-cons (λ (e : Candidate). one_closed e.key.tb) e es

-- as many of them are so in their order
pub shown_closed : (old shown : List Candidate) → in_rising_order old ≡ shown → closed_in shown ≡ closed_in old
shown_closed old shown view = ap closed_in (sym view)
    ∙ permuted_closed old (in_rising_order old) (in_rising_order-permutes old)

-- one candidate more, and one less
pub grown_closed : (e : Candidate) (old new : List Candidate) → IsPermutation (e ∷ old) new
    → closed_in new ≡ closed_in old + one_closed e.key.tb
grown_closed e old new more =
    let all = permuted_closed (e ∷ old) new more in
    let first = cons_closed e old in
    omega (arith, all, first)

pub taken_closed : (e : Candidate) (old new : List Candidate) → IsPermutation old (e ∷ new)
    → closed_in new + one_closed e.key.tb ≡ closed_in old
taken_closed e old new less =
    let all = permuted_closed old (e ∷ new) less in
    let first = cons_closed e new in
    omega (arith, all, first)

-- a candidate with another tiebreaker
pub tied_closed : (tb : Option ℕ) (place : ℕ) (old new final : List Candidate) → place < length old
    → new ≡ set old place (with_tiebreaker tb (candidate_at old place)) → IsPermutation new final
    → closed_in final + one_closed (candidate_at old place).key.tb ≡ closed_in old + one_closed tb
tied_closed tb place old new final inside put moved =
    let all = permuted_closed new final moved in
    let same : closed_in new
    ≡ closed_in (set old place (with_tiebreaker tb (candidate_at old place))) = ap closed_in put in
    let one =
    sum_by-set (λ (e : Candidate). one_closed e.key.tb) old place
    (with_tiebreaker tb (candidate_at old place)) blank_candidate inside in
    omega (arith, all, same, one)

-- renumbered tiebreakers stay closed
renumbered_one : (table : List ℕ) (tb : Option ℕ) → one_closed (option_map (place_in table) tb) ≡ one_closed tb
renumbered_one table None = refl
renumbered_one table (Some n) = refl

pub renumbered_closed : (table : List ℕ) (es : List Candidate)
    → closed_in (map (renumbered_candidate table) es) ≡ closed_in es
renumbered_closed table [] = refl
renumbered_closed table (e ∷ es) =
    let first = renumbered_one table e.key.tb in
    let rest = renumbered_closed table es in
    let before = cons_closed e es in
    let after = cons_closed (renumbered_candidate table e) (map (renumbered_candidate table) es) in
    omega (arith, first, rest, before, after)

-- they are no more than all
one_small : (tb : Option ℕ) → one_closed tb ≤ 1
one_small None = omega arith
one_small (Some n) = omega arith

pub closed_upto_all : (es : List Candidate) → closed_in es ≤ length es
closed_upto_all [] = omega arith
closed_upto_all (e ∷ es) =
    let first = one_small e.key.tb in
    let rest = closed_upto_all es in
    let both = cons_closed e es in
    omega (arith, first, rest, both)

-- a closed candidate that is there makes the count at least 1, and two with two ids make it at least 2
head_or_tail : (x y : Candidate) (xs : List Candidate) (k : ℕ) → k < length (x ∷ xs) → get_or (x ∷ xs) k y ≡ y
    → (x ≡ y) ⊎ Contains xs y
head_or_tail x y xs zero inside is = inl is
head_or_tail x y xs (suc k) inside is = inr (k, omega (arith, inside), is)

is_one : (x y : Candidate) → x ≡ y → IsSome y.key.tb → one_closed x.key.tb ≡ 1
is_one x y same some = ap (λ (e : Candidate). one_closed e.key.tb) same ∙ ap (λ b. cond b 1 0) some

one_there : (a : Candidate) (es : List Candidate) → Contains es a → IsSome a.key.tb → 1 ≤ closed_in es
one_there a [] has some = absurd (omega (arith, has.1))
one_there a (e ∷ es) has some =
    let both = cons_closed e es in
    elim (head_or_tail e a es has.0 has.1 has.2) [
      | inl same ↦ (let one = is_one e a same some in omega (arith, both, one))
      | inr tail ↦ (let rest = one_there a es tail some in omega (arith, both, rest))
    ]

pub two_there : (a b : Candidate) (es : List Candidate) → Contains es a → Contains es b → a.id ≢ b.id → IsSome a.key.tb
    → IsSome b.key.tb → 2 ≤ closed_in es
two_there a b [] first second other sa sb = absurd (omega (arith, first.1))
two_there a b (e ∷ es) first second other sa sb =
    let both = cons_closed e es in
    elim (head_or_tail e a es first.0 first.1 first.2) [
      | inl same ↦ elim (head_or_tail e b es second.0 second.1 second.2) [
        | inl same' ↦ absurd (other (ap (λ (e : Candidate). e.id) (sym same ∙ same')))
        | inr tail ↦ (let one = is_one e a same sa in let rest = one_there b es tail sb in omega (arith, both, one, rest))
      ]
      | inr tail ↦ elim (head_or_tail e b es second.0 second.1 second.2) [
        | inl same ↦ (let one = is_one e b same sb in let rest = one_there a es tail sa in omega (arith, both, one, rest))
        | inr tail' ↦ (let rest = two_there a b es tail tail' other sa sb in omega (arith, both, rest))
      ]
    ]
