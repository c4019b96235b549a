-- Tournaments: binary trees of ranks in a list, in which each node above the leaves has the lesser rank of its two
-- children.
use Rattle.std.specs.Prelude.{◌≡◌, ◌≢◌, ◌⊎◌, ℕ, ◌+◌, ◌*◌, ◌^◌, ◌-◌, ◌/◌, ◌<◌, ◌≤◌, min, List, length, drop}
use Rattle.std.specs.Prelude.{slice_index_or}

-- the rank of what isn't there: above all others
abbrev pub no_rank : ℕ
no_rank = 2 ^ 64 - 1

-- the rank at a node; the root is node 1
abbrev pub node : List ℕ → ℕ → ℕ
node nodes k = slice_index_or nodes k no_rank

-- a node's rank is the lesser of those of its children
abbrev pub IsWon : List ℕ → ℕ → Type 0
IsWon nodes k = node nodes k ≡ min (node nodes (2 * k)) (node nodes (2 * k + 1))

-- a tournament of so many leaves, but for one node, whose children may have changed
pub record IsTournamentBut (width : ℕ) (nodes : List ℕ) (but : ℕ) : Type 0 where
  pub long : length nodes ≡ 2 * width
  pub won : (k : ℕ) → 1 ≤ k → k < width → k ≢ but → IsWon nodes k

-- each node above the leaves has the lesser rank of its children; node 0 is none
abbrev pub IsTournament : ℕ → List ℕ → Type 0
IsTournament width nodes = IsTournamentBut width nodes 0

-- the leaves
abbrev pub leaves : List ℕ → List ℕ
leaves nodes = drop (length nodes / 2) nodes

-- the least of these ranks, or the rank of what isn't there where there are none
pub record IsLeastOf (ranks : List ℕ) (rank : ℕ) : Type 0 where
  pub below : (k : ℕ) → k < length ranks → rank ≤ slice_index_or ranks k no_rank
  pub stands : (rank ≡ no_rank) ⊎ ((k : ℕ) × (k < length ranks) × (slice_index_or ranks k no_rank ≡ rank))
