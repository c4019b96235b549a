-- What stands at the places of a list: of several lists one after another, of a mapped one, and of one that is parted.
use Rattle.std.proofs.Common.{◌≡◌, ◌⊎◌, ℕ, zero, suc, List, [], ◌∷◌, ◌++◌, map, flat_map, Contains, Some, refl, sym, ap}
use Rattle.std.proofs.Common.{inl, inr, arith, slice_get, slice_index_or}
use Rattle.std.proofs.lemmas.Option.{slice_get_within, get_or_from_slice_get}
use Rattle.spec_state.specs.task_law.Tasks.{In}
use Rattle.fractal_vt.proofs.Proved.{get_front}

-- an element of the second list is one of both
get_right : {X : Type 0} (xs ys : List X) (k : ℕ) (x : X) → slice_get ys k ≡ Some x
    → (j : ℕ) × (slice_get (xs ++ ys) j ≡ Some x)
get_right [] ys k x at = (k, at)
get_right (y ∷ xs) ys k x at = let further = get_right xs ys k x at in (suc further.0, further.1)

-- an element of both lists is one of the first or of the second
get_cases : {X : Type 0} (xs ys : List X) (k : ℕ) (x : X) → slice_get (xs ++ ys) k ≡ Some x
    → (slice_get xs k ≡ Some x) ⊎ ((j : ℕ) × (slice_get ys j ≡ Some x))
get_cases [] ys k x at = inr (k, at)
get_cases (y ∷ xs) ys zero x at = inl at
get_cases (y ∷ xs) ys (suc k) x at = get_cases xs ys k x at

-- what stands at a place of one of the lists stands at some place of all
pub place_in_all : {X : Type 0} (lists : List (List X)) (i place : ℕ) (x : X)
    → slice_get (slice_index_or lists i []) place ≡ Some x
    → (k : ℕ) × (slice_get (flat_map (λ xs. xs) lists) k ≡ Some x)
place_in_all [] i place x at = absurd (cc (at))
place_in_all (xs ∷ lists) zero place x at = (place, get_front xs (flat_map (λ xs. xs) lists) place x at)
place_in_all (xs ∷ lists) (suc i) place x at =
    let among = place_in_all lists i place x at in
    get_right xs (flat_map (λ xs. xs) lists) among.0 x among.1

-- what stands at a place of all stands at some place of one of the lists
pub place_in_one : {X : Type 0} (lists : List (List X)) (k : ℕ) (x : X)
    → slice_get (flat_map (λ xs. xs) lists) k ≡ Some x
    → (i : ℕ) × (place : ℕ) × (slice_get (slice_index_or lists i []) place ≡ Some x)
place_in_one [] k x at = absurd (cc (at))
place_in_one (xs ∷ lists) k x at = elim (get_cases xs (flat_map (λ xs. xs) lists) k x at) [
  | inl here ↦ (zero, k, here)
  | inr later ↦ (let one = place_in_one lists later.0 x later.1 in (suc one.0, one.1, one.2))
]

-- a list around one of its elements
pub parted : {X : Type 0} (xs : List X) (k : ℕ) (x : X) → slice_get xs k ≡ Some x
    → (front : List X) × (back : List X) × (xs ≡ front ++ x ∷ back)
parted [] k x at = absurd (cc (at))
parted (y ∷ xs) zero x at = let same : y ≡ x = cc in ([], xs, λ i. same i ∷ xs)
parted (y ∷ xs) (suc k) x at = let rest = parted xs k x at in (y ∷ rest.0, rest.1, λ i. y ∷ rest.2 i)

-- what is found at a place is an element
pub get_contains : {X : Type 0} (xs : List X) (k : ℕ) (x : X) → slice_get xs k ≡ Some x → Contains xs x
get_contains xs k x at = (k, slice_get_within xs k x at, get_or_from_slice_get xs k x x at)

-- and an element is found at some place
pub contains_get : {X : Type 0} (xs : List X) (x : X) → Contains xs x → (place : ℕ) × (slice_get xs place ≡ Some x)
contains_get [] x has = absurd (omega (arith, has.1))
contains_get (y ∷ xs) x (zero, below, at) = (zero, ap Some at)
contains_get (y ∷ xs) x (suc k, below, at) = let rest = contains_get xs x (k, omega arith, at) in (suc rest.0, rest.1)

-- what stands in a mapped list comes from some place of the list
pub in_mapped : {X Y : Type 0} (f : X → Y) (xs : List X) (y : Y) → In y (map f xs)
    → (k : ℕ) × (x : X) × (slice_get xs k ≡ Some x) × (y ≡ f x)
in_mapped f [] y at = absurd at
in_mapped f (x ∷ xs) y (inl here) = (zero, x, refl, here)
in_mapped f (x ∷ xs) y (inr later) = let from = in_mapped f xs y later in (suc from.0, from.1, from.2, from.3)

-- and what stands at a place of the list stands in the mapped one
pub in_map : {X Y : Type 0} (f : X → Y) (xs : List X) (k : ℕ) (x : X) → slice_get xs k ≡ Some x → In (f x) (map f xs)
in_map f [] k x at = absurd (cc (at))
in_map f (y ∷ xs) zero x at = let same : y ≡ x = cc in inl (ap f (sym same))
in_map f (y ∷ xs) (suc k) x at = inr (in_map f xs k x at)

-- and so does what the list contains
pub contained_in_map : {X Y : Type 0} (f : X → Y) (xs : List X) (x : X) → Contains xs x → In (f x) (map f xs)
contained_in_map f xs x has = let place = contains_get xs x has in in_map f xs place.0 x place.1
