-- Places of a list whose elements are distinct.
use Rattle.std.proofs.Common.{◌≡◌, ◌<◌, ℕ, List, Some, sym, ◌∙◌, inl, inr, arith, slice_get}
use Rattle.std.proofs.lemmas.Bool.{cases_eq, cases_lt}
use Rattle.std.proofs.lemmas.Option.{get_or_from_slice_get, slice_get_within}
use Rattle.tile_queues.specs.Queue.{AreDistinct}

-- an element stands at one place
pub one_place : (ids : List ℕ) (p q id : ℕ) → AreDistinct ids → slice_get ids p ≡ Some id → slice_get ids q ≡ Some id
    → p ≡ q
one_place ids p q id distinct at again = elim (cases_lt p q) [
  | inl less ↦ absurd (apart p q less at again)
  | inr upto ↦ elim (cases_eq p q) [ inl same ↦ same | inr other ↦ absurd (apart q p (omega (arith, upto, other)) again at) ]
]
  where
    apart : (i j : ℕ) → i < j → slice_get ids i ≡ Some id → slice_get ids j ≡ Some id → ⊥
    apart i j less first second =
        distinct i j id less (slice_get_within ids j id second) (get_or_from_slice_get ids i id id first ∙ sym (get_or_from_slice_get ids j id id second))
