-- The front of a list of placers, as contracts see it.
use Rattle.std.proofs.Common.{◌≡◌, ℕ, List, [], ◌∷◌, map, slice_get, slice_set, Some, ap, ◌∙◌}
use Rattle.place_policy.specs.Policy.{Policy, after_placing}
use Rattle.place_policy.specs.Serving.{serving_tile, first_placed}

-- the tile of a list is that of its first placer
pub serving_tile_front : {X : Type 0} (see : X → Policy) (xs : List X) (x : X) (hint : ℕ) (loads : List ℕ)
    → slice_get xs 0 ≡ Some x → serving_tile (map see xs) hint loads ≡ (see x).chosen (see x).state hint loads
serving_tile_front see [] x hint loads at = cc
serving_tile_front see (y ∷ ys) x hint loads at =
    ap (λ z. (see z).chosen (see z).state hint loads) (let e : y ≡ x = cc in e)

-- where the first placer was told of a tile, the list is told of it
pub first_placed_front : {X : Type 0} (see : X → Policy) (xs : List X) (x y : X) (tile : ℕ) → slice_get xs 0 ≡ Some x
    → see y ≡ after_placing (see x) tile → map see (slice_set xs 0 y) ≡ first_placed (map see xs) tile
first_placed_front see [] x y tile at e = cc
first_placed_front see (z ∷ zs) x y tile at e =
    ap (λ p. p ∷ map see zs) (e ∙ ap (λ w. after_placing (see w) tile) (let same : x ≡ z = cc in same))
