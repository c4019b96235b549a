-- A list of placers, of which the first serves.
use Rattle.std.specs.Prelude.{ℕ, ◌%◌, List, [], ◌∷◌, length}
use Rattle.place_policy.specs.Policy.{Policy, after_placing}

-- the first placer chooses; with none the tile is the hint modulo the number of tiles
abbrev pub serving_tile : List Policy → ℕ → List ℕ → ℕ
serving_tile [] hint loads = hint % length loads
serving_tile (policy ∷ policies) hint loads = policy.chosen policy.state hint loads

-- a task was placed in this tile, which is reported to the first placer alone
abbrev pub first_placed : List Policy → ℕ → List Policy
first_placed [] tile = []
first_placed (policy ∷ policies) tile = after_placing policy tile ∷ policies
