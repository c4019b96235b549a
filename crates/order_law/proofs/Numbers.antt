-- Numbers of levels.
use Rattle.std.proofs.Common.{◌≡◌, ◌⊎◌, ℕ, ◌+◌, ◌<◌, List, [], ◌∷◌, ◌++◌, Option, Some, None, sym, ap, subst, ◌∙◌, inl}
use Rattle.std.proofs.Common.{inr, arith}
use Rattle.std.specs.declared.cmp.Ordering.{Ordering}
use Rattle.fractal_vt.specs.Levels.{Open}
use Rattle.fractal_vt.specs.Paths.{OnPath}
use Rattle.order_law.specs.Ordered.{TieBelow, LevelsBelow, IsNumberOf, NumbersDiffer}

pub LevelsBelow-append : (next : ℕ) (xs : List Open) (l : Open) → LevelsBelow next xs → TieBelow next l.tb
    → LevelsBelow next (xs ++ l ∷ [])
LevelsBelow-append next [] l below last = (last, tt)
LevelsBelow-append next (x ∷ xs) l below last = (below.0, LevelsBelow-append next xs l below.1 last)

pub TieBelow-more : (next : ℕ) (t : Option ℕ) → TieBelow next t → TieBelow (next + 1) t
TieBelow-more next None below = absurd below
TieBelow-more next (Some n) below = omega arith

pub LevelsBelow-more : (next : ℕ) (xs : List Open) → LevelsBelow next xs → LevelsBelow (next + 1) xs
LevelsBelow-more next [] below = tt
LevelsBelow-more next (x ∷ xs) below = (TieBelow-more next x.tb below.0, LevelsBelow-more next xs below.1)

-- the numbers of levels that are below this one
pub below_from : (next : ℕ) (xs : List Open) (n : ℕ) → LevelsBelow next xs → IsNumberOf n xs → n < next
below_from next [] n below is = absurd is
below_from next (x ∷ xs) n below (inl here) = subst (TieBelow next) here below.0
below_from next (x ∷ xs) n below (inr later) = below_from next xs n below.1 later

pub number_in : (xs : List Open) (l : Open) (n : ℕ) → IsNumberOf n (xs ++ l ∷ []) → IsNumberOf n xs ⊎ (l.tb ≡ Some n)
number_in [] l n (inl here) = inr here
number_in [] l n (inr no_way) = absurd no_way
number_in (x ∷ xs) l n (inl here) = inl (inl here)
number_in (x ∷ xs) l n (inr later) =
    elim (number_in xs l n later) [ inl inside ↦ inl (inr inside) | inr last ↦ inr last ]

-- a level more, with a number of its own
pub differ_more : (xs : List Open) (l : Open) → NumbersDiffer xs → ((n : ℕ) → l.tb ≡ Some n → IsNumberOf n xs → ⊥)
    → NumbersDiffer (xs ++ l ∷ [])
differ_more [] l differ fresh = (λ n is no_way. no_way, tt)
differ_more (x ∷ xs) l differ fresh = (
  λ n is later. elim (number_in xs l n later) [ inl inside ↦ differ.0 n is inside | inr last ↦ fresh n last (inl is) ],
  differ_more xs l differ.1 (λ n is inside. fresh n is (inr inside)),
)

-- the numbers of a domain on a path are numbers of the path
pub domain_in_path : (R : Open → Open → Ordering) (path ds : List Open) (l : Open) (n : ℕ) → OnPath R path ds l
    → IsNumberOf n ds → IsNumberOf n path
domain_in_path R path [] l n on is = absurd is
domain_in_path R [] (d ∷ ds) l n on is = absurd on
domain_in_path R (p ∷ path) (d ∷ ds) l n on (inl here) = inl (ap (λ x. x.tb) (sym on.0) ∙ here)
domain_in_path R (p ∷ path) (d ∷ ds) l n on (inr later) = inr (domain_in_path R path ds l n on.1 later)

pub domain_differs : (R : Open → Open → Ordering) (path ds : List Open) (l : Open) → OnPath R path ds l
    → NumbersDiffer path → NumbersDiffer ds
domain_differs R path [] l on differ = tt
domain_differs R [] (d ∷ ds) l on differ = absurd on
domain_differs R (p ∷ path) (d ∷ ds) l on differ = (
  λ n is later. differ.0 n (ap (λ x. x.tb) (sym on.0) ∙ is) (domain_in_path R path ds l n on.1 later),
  domain_differs R path ds l on.1 differ.1,
)
