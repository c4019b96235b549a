-- What a list contains: decided for ids, an id of a list that isn't empty, and one element fewer.
use Rattle.std.proofs.Common.{◌≡◌, ◌≢◌, ◌⊎◌, ◌≤◌, ◌∷◌, ◌++◌, ℕ, zero, suc, List, [], length, Some, refl, sym, ap, ◌∙◌}
use Rattle.std.proofs.Common.{inl, inr}
use Rattle.std.proofs.Common.{arith, drop, take, slice_index_or, slice_get, append_assoc}
use Rattle.std.specs.Prelude.{Contains, flat_map, remove, slice_set}
use Rattle.std.proofs.lemmas.Bool.{cases_eq}
use Rattle.spec_state.proofs.Proved.{head_or_tail}

-- an id is one of a list or is not
pub decided : (ids : List ℕ) (k : ℕ) → Contains ids k ⊎ (Contains ids k → ⊥)
decided [] k = inr (λ c. omega (arith, c.1))
decided (id ∷ ids) k = elim (cases_eq id k) [
  | inl same ↦ inl (0, omega arith, same)
  | inr other ↦ elim (decided ids k) [
    | inl behind ↦ inl (suc behind.0, omega (arith, behind.1), behind.2)
    | inr none ↦ inr (λ c. elim (head_or_tail id ids k c) [ inl same ↦ other same | inr behind ↦ none behind ])
  ]
]

-- a list of at least one id has one
pub some_in : (ids : List ℕ) → 1 ≤ length ids → (id : ℕ) × Contains ids id
some_in [] some = absurd (omega (arith, some))
some_in (id ∷ ids) some = (id, (0, omega arith, refl))

-- a list that is not empty has an id
pub some_first : (ids : List ℕ) → ids ≢ [] → (id : ℕ) × Contains ids id
some_first [] none = absurd (none refl)
some_first (id ∷ ids) some = (id, (0, omega arith, refl))

-- a list around the element at a place
around : {X : Type 0} (xs : List X) (place : ℕ) (x : X) → slice_get xs place ≡ Some x
    → xs ≡ take place xs ++ x ∷ drop (suc place) xs
around [] place x at = absurd (cc)
around (y ∷ xs) zero x at = let same : y ≡ x = cc in λ i. same i ∷ xs
around (y ∷ xs) (suc place) x at = ap (λ ys. y ∷ ys) (around xs place x at)

-- where one list of several loses an element, all of them together lose it at one place
pub less_in_one : {X : Type 0} (lists : List (List X)) (at place : ℕ) (x : X)
    → slice_get (slice_index_or lists at []) place ≡ Some x
    → (front : List X) × (back : List X) × (flat_map (λ xs. xs) lists ≡ front ++ x ∷ back)
    × (flat_map (λ xs. xs) (slice_set lists at (remove (slice_index_or lists at []) place)) ≡ front ++ back)
less_in_one [] at place x is = absurd (cc)
less_in_one (xs ∷ lists) zero place x is =
    let rest = flat_map (λ ys. ys) lists in (
      take place xs,
      drop (suc place) xs ++ rest,
      ap (λ ys. ys ++ rest) (around xs place x is) ∙ append_assoc (take place xs) (x ∷ drop (suc place) xs) rest,
      append_assoc (take place xs) (drop (suc place) xs) rest,
    )
less_in_one (xs ∷ lists) (suc at) place x is =
    let rest = less_in_one lists at place x is in (
      xs ++ rest.0,
      rest.1,
      ap (λ ys. xs ++ ys) rest.2 ∙ sym (append_assoc xs rest.0 (x ∷ rest.1)),
      ap (λ ys. xs ++ ys) rest.3 ∙ sym (append_assoc xs rest.0 rest.1),
    )
