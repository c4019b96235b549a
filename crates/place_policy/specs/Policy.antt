-- What a placer does, as contracts see it.
use Rattle.std.specs.Prelude.{ℕ, ◌<◌, ◌≤◌, List}

-- a state, the tile that is chosen from a state, a hint and the load of each tile, and the state after a task was
-- placed in a tile
pub record Policy : Type 0 where
  pub state : ℕ
  pub chosen : ℕ → ℕ → List ℕ → ℕ
  pub after : ℕ → ℕ → ℕ

-- the policy after a task was placed in a tile: only its state changes
abbrev pub after_placing : Policy → ℕ → Policy
after_placing policy tile = record policy { state = policy.after policy.state tile }

-- a machine has 1 to 16 tiles
abbrev pub IsTileCount : ℕ → Type 0
IsTileCount tiles = (0 < tiles) × (tiles ≤ 16)
