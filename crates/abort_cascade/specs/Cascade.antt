-- Sets of nodes that are closed under a relation. The nodes are the numbers below a count, and a set of them is a
-- list of marks.
use Rattle.std.specs.Prelude.{◌≡◌, ℕ, ◌<◌, ◌↔◌, Bool, true, false, List, slice_index_or}

-- the node is marked
abbrev pub Marked : List Bool → ℕ → Type 0
Marked marks node = slice_index_or marks node false ≡ true

-- with each node the set holds all that it pulls
abbrev pub IsClosed : ℕ → (ℕ → ℕ → Bool) → (ℕ → Type 0) → Type 0
IsClosed count pull set = (a b : ℕ) → a < count → b < count → pull a b ≡ true → set a → set b

-- the node is one of the first ones, or is pulled from one of them, directly or through others
pub data Reached (count : ℕ) (pull : ℕ → ℕ → Bool) (firsts : ℕ → Type 0) : ℕ → Type 0 where
  start : (a : ℕ) → firsts a → Reached count pull firsts a
  step : {a : ℕ} (b : ℕ) → Reached count pull firsts a → a < count → b < count → pull a b ≡ true
      → Reached count pull firsts b

-- the marks are the least closed set that holds the first nodes
pub record IsLeastClosed (count : ℕ) (pull : ℕ → ℕ → Bool) (firsts : ℕ → Type 0) (marks : List Bool) : Type 0 where
  pub holds : (node : ℕ) → firsts node → Marked marks node
  pub closed : IsClosed count pull (Marked marks)
  pub reached : (node : ℕ) → Marked marks node → Reached count pull firsts node

-- the set of this one node
abbrev pub OnlyNode : ℕ → ℕ → Type 0
OnlyNode first node = node ≡ first

-- the least closed set of some nodes is the union of the least closed sets of each
abbrev pub ClosesToUnion : Type 0
ClosesToUnion =
    (count : ℕ) (pull : ℕ → ℕ → Bool) (firsts marks : List Bool) → IsLeastClosed count pull (Marked firsts) marks
    → (node : ℕ) → Marked marks node ↔ ((first : ℕ) × Marked firsts first × Reached count pull (OnlyNode first) node)

-- each closed set that holds the first nodes holds the least one
abbrev pub ClosesToLeast : Type 0
ClosesToLeast =
    (count : ℕ) (pull : ℕ → ℕ → Bool) (firsts marks : List Bool) → IsLeastClosed count pull (Marked firsts) marks
    → (set : ℕ → Bool) → ((node : ℕ) → Marked firsts node → set node ≡ true)
    → IsClosed count pull (λ node. set node ≡ true)
    → (node : ℕ) → Marked marks node → set node ≡ true
