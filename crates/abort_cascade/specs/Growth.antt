-- How marks grow, and lists of the marked nodes.
use Rattle.std.specs.Prelude.{◌≡◌, ℕ, ◌<◌, Bool, true, false, List, length, count_by, slice_index}
use Rattle.abort_cascade.specs.Cascade.{Marked, Reached}

-- the marks stay, and each new one is pulled from the old ones, directly or through others
pub record Spreads (count : ℕ) (pull : ℕ → ℕ → Bool) (old new : List Bool) : Type 0 where
  pub stay : (node : ℕ) → Marked old node → Marked new node
  pub reached : (node : ℕ) → Marked new node → Reached count pull (Marked old) node
  pub size : length new ≡ length old

-- it says whether a mark is new
pub record SaysGrown (old new : List Bool) (grown : Bool) : Type 0 where
  pub same : grown ≡ false → new ≡ old
  pub more : grown ≡ true → count_by (λ mark. mark) old < count_by (λ mark. mark) new

-- the first so many of the members are the marked nodes, each once
pub record IsListOf (marks : List Bool) (members : List ℕ) (found : ℕ) : Type 0 where
  pub marked : (k : ℕ) → k < found → Marked marks (slice_index members k)
  pub all : (node : ℕ) → Marked marks node → (k : ℕ) × (k < found) × (slice_index members k ≡ node)
  pub size : found ≡ count_by (λ mark. mark) marks
