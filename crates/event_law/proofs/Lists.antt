-- Facts about the elements of lists, and about a value under a map of an option.
use Rattle.std.proofs.Common.{ℕ, suc, ◌+◌, ◌≡◌, ◌<◌, ◌≤◌, ◌⊎◌, inl, inr, List, [], ◌∷◌, Option, Some, None, refl, sym}
use Rattle.std.proofs.Common.{subst, arith}
use Rattle.std.specs.Prelude.{length, slice_get, slice_index_or, flat_map, option_map}
use Rattle.std.specs.List.{All, AllByRecursion, enumerate_from}
use Rattle.std.proofs.lemmas.Bool.{cases_lt}
use Rattle.std.proofs.lemmas.List.{get_or_past}
use Rattle.std.proofs.lemmas.List.Elements.{All-nil, All-head, All-tail, All-append}

-- what holds of each element and of the default holds at each place
pub at_each_place : {X : Type 0} (P : X → Type 0) (xs : List X) (k : ℕ) (d : X) → All P xs → P d
    → P (slice_index_or xs k d)
at_each_place P xs k d all of_default = by_case (cases_lt k (length xs))
  where
    by_case : (k < length xs) ⊎ (length xs ≤ k) → P (slice_index_or xs k d)
    by_case (inl below) = all k d below
    by_case (inr past) = subst P (sym (get_or_past xs k d past)) of_default

-- what holds of each element of each list holds of each of all of them
pub all_of_lists : {X : Type 0} (P : X → Type 0) (lists : List (List X)) → All (λ xs. All P xs) lists
    → All P (flat_map (λ xs. xs) lists)
all_of_lists P [] all = All-nil P
all_of_lists {X} P (xs ∷ lists) all =
    All-append P xs (flat_map (λ ys. ys) lists) (All-head (λ ys. All P ys) xs lists all) (all_of_lists P lists (All-tail (λ ys. All P ys) xs lists all))

-- a value under a map of an option is that of some value
pub from_option : {X Y : Type 0} (f : X → Y) (o : Option X) (y : Y) → option_map f o ≡ Some y
    → (x : X) × (o ≡ Some x) × (f x ≡ y)
from_option f None y e = absurd (cc)
from_option f (Some x) y e = let is : f x ≡ y = cc in (x, refl, is)

-- each element of a list that is counted from a number on stands at its place behind that number
pub counted_places : {X : Type 0} (all : List X) (k : ℕ) (xs : List X)
    → ((j : ℕ) → slice_get all (k + j) ≡ slice_get xs j)
    → AllByRecursion (λ e. slice_get all e.0 ≡ Some e.1) (enumerate_from k xs)
counted_places all k [] same = tt
counted_places all k (x ∷ xs) same =
    let first : k + 0 ≡ k = omega arith in (
      subst (λ n. slice_get all n ≡ Some x) first (same 0),
      counted_places all (k + 1) xs (λ j. (let next : k + suc j ≡ k + 1 + j = omega arith in subst (λ n. slice_get all n ≡ slice_get xs j) next (same (suc j)))),
    )
