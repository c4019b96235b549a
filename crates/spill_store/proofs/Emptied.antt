-- A list whose items all give one thing.
use Rattle.std.proofs.Common.{◌≡◌, ◌<◌, ◌∷◌, ℕ, suc, List, [], length, map, replicate, refl, arith, slice_index_or}

-- a list whose items all give one thing
pub all_give : {X Y : Type 0} (f : X → Y) (y : Y) (xs : List X)
    → ((k : ℕ) (d : X) → k < length xs → f (slice_index_or xs k d) ≡ y) → map f xs ≡ replicate (length xs) y
all_give f y [] each = refl
all_give f y (x ∷ xs) each =
    λ i. each 0 x (omega arith) i ∷ all_give f y xs (λ k d within. each (suc k) d (omega (arith, within))) i
