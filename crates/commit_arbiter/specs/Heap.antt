-- Heaps of candidates, and lists that are heaps but for one place.
use Rattle.std.specs.Prelude.{◌≡◌, ◌≢◌, ℕ, ◌-◌, ◌<◌, ◌/◌, List, [], ◌∷◌, length, Bool, true, false, nat_eq}
use Rattle.std.specs.List.{IsDistinct}
use Rattle.std.specs.List.Sorted.{IsPermutation}
use Rattle.std.specs.declared.cmp.Ordering.TheVariants.{Greater}
use Rattle.fractal_vt.specs.Sorted.{after_insert}
use Rattle.commit_arbiter.specs.declared.candidate.Candidate.{Candidate}
use Rattle.commit_arbiter.specs.Indexed.{candidate_cmp}
use Rattle.commit_arbiter.specs.Slots.{candidate_at}

-- the place above
abbrev pub parent : ℕ → ℕ
parent k = (k - 1) / 2

-- each element is not less than its parent, in any relation
abbrev pub IsHeapBy : {X : Type 0} → (X → X → Type 0) → (ℕ → X) → ℕ → Type 0
IsHeapBy le f many = (k : ℕ) → 0 < k → k < many → le (f (parent k)) (f k)

-- a heap but for one place, which may be less than its parent
pub record IsHeapUp {X : Type 0} (le : X → X → Type 0) (f : ℕ → X) (many i : ℕ) : Type 0 where
  pub order : (k : ℕ) → 0 < k → k < many → k ≢ i → le (f (parent k)) (f k)
  pub over : (k : ℕ) → 0 < i → 0 < k → k < many → parent k ≡ i → le (f (parent i)) (f k)

-- a heap but for one place, which may be less than its parent or greater than its children
pub record IsHeapApart {X : Type 0} (le : X → X → Type 0) (f : ℕ → X) (many i : ℕ) : Type 0 where
  pub order : (k : ℕ) → 0 < k → k < many → k ≢ i → parent k ≢ i → le (f (parent k)) (f k)
  pub over : (k : ℕ) → 0 < i → 0 < k → k < many → parent k ≡ i → le (f (parent i)) (f k)

-- the first candidate is not greater than the second
abbrev pub upto : Candidate → Candidate → Type 0
upto a b = candidate_cmp a b ≢ Greater

-- each candidate is not less than its parent
abbrev pub IsHeap : List Candidate → Type 0
IsHeap candidates = IsHeapBy upto (candidate_at candidates) (length candidates)

-- what one exchange up leaves: where it moved the candidate, the parent's place is now the one that may stand wrong
pub record SiftsUpOnce (old new : List Candidate) (at : ℕ) (moved : Bool) : Type 0 where
  pub long : length new ≡ length old
  pub permuted : IsPermutation old new
  pub up : moved ≡ true → IsHeapUp upto (candidate_at new) (length new) (parent at)
  pub all : moved ≡ false → IsHeap new

-- the least child of a place
pub record IsLeastChild (candidates : List Candidate) (at c : ℕ) : Type 0 where
  pub pos : 0 < c
  pub inside : c < length candidates
  pub child : parent c ≡ at
  pub least : (k : ℕ) → 0 < k → k < length candidates → parent k ≡ at
      → upto (candidate_at candidates c) (candidate_at candidates k)

-- what one exchange down leaves: the place that may stand wrong is now the child's
pub record SiftsDownOnce (old new : List Candidate) (at c : ℕ) : Type 0 where
  pub long : length new ≡ length old
  pub permuted : IsPermutation old new
  pub inside : c < length new
  pub below : at < c
  pub apart : IsHeapApart upto (candidate_at new) (length new) c

-- the candidates in their order
abbrev pub in_rising_order : List Candidate → List Candidate
in_rising_order [] = []
in_rising_order (e ∷ candidates) = after_insert candidate_cmp e (in_rising_order candidates)

-- a heap of candidates, no two with one id
pub record IsHeapIndex (candidates : List Candidate) : Type 0 where
  pub heap : IsHeap candidates
  pub ids : IsDistinct (λ a b. nat_eq a.id b.id) candidates
