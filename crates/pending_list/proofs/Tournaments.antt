-- The root of a tournament has the least rank of the leaves.
use Rattle.std.proofs.Common.{◌≡◌, ◌≢◌, ◌⊎◌, inl, inr, refl, sym, ap, ◌∙◌, ℕ, zero, suc, ◌+◌, ◌*◌, ◌/◌, ◌-◌, ◌<◌, ◌≤◌}
use Rattle.std.proofs.Common.{min, List, length, get_or, arith}
use Rattle.std.proofs.lemmas.Bool.{cases_eq, cases_lt}
use Rattle.std.proofs.lemmas.List.{get_or-drop, length-drop, get_or_default}
use Rattle.pending_list.specs.Tournament.{no_rank, node, leaves, IsTournament, IsLeastOf}

-- where a node has the lesser rank of its children, its rank is at most that of each of them
child_above : (nodes : List ℕ) (i p : ℕ) → node nodes p ≡ min (node nodes (2 * p)) (node nodes (2 * p + 1)) → i / 2 ≡ p
    → node nodes p ≤ node nodes i
child_above nodes i p won half = go (cases_eq i (2 * p)) where
  go : (i ≡ 2 * p) ⊎ (i ≢ 2 * p) → node nodes p ≤ node nodes i
  go (inl left) = let same = ap (node nodes) left in omega arith
  go (inr other) = let right : i ≡ 2 * p + 1 = omega arith in let same = ap (node nodes) right in omega arith

not_none : (k : ℕ) → 1 ≤ k → k ≢ 0
not_none k low same = let no_way : ⊥ = omega arith in no_way

root_below : (width : ℕ) (nodes : List ℕ) → IsTournament width nodes → (most i : ℕ) → i ≤ most → 1 ≤ i
    → i < length nodes
    → node nodes 1 ≤ node nodes i
root_below width nodes is zero i few low within = absurd (omega arith)
root_below width nodes is (suc most) i few low within = go (root_below width nodes is most) (cases_eq i 1) where
  go : ((p : ℕ) → p ≤ most → 1 ≤ p → p < length nodes → node nodes 1 ≤ node nodes p) → (i ≡ 1) ⊎ (i ≢ 1)
      → node nodes 1 ≤ node nodes i
  go up (inl first) = let same = ap (node nodes) first in omega arith
  go up (inr later) =
      let above = up (i / 2) (omega arith) (omega arith) (omega arith) in
      let long = is.long in
      let won = is.won (i / 2) (omega arith) (omega arith) (not_none (i / 2) (omega arith)) in
      let below = child_above nodes i (i / 2) won refl in
      omega arith

-- a leaf with the rank of a node
record HasLeaf (width : ℕ) (nodes : List ℕ) (i : ℕ) : Type 0 where
  leaf : ℕ
  low : width ≤ leaf
  high : leaf < 2 * width
  same : node nodes leaf ≡ node nodes i

has_leaf : (width : ℕ) (nodes : List ℕ) → IsTournament width nodes → (left i : ℕ) → 2 * width ≤ i + left → 1 ≤ i
    → i < 2 * width
    → HasLeaf width nodes i
has_leaf width nodes is zero i few low within = absurd (omega arith)
has_leaf width nodes is (suc left) i few low within = go (has_leaf width nodes is left) (cases_lt i width) where
  down : ((p : ℕ) → 2 * width ≤ p + left → 1 ≤ p → p < 2 * width → HasLeaf width nodes p) → i < width
      → (node nodes (2 * i) < node nodes (2 * i + 1)) ⊎ (node nodes (2 * i + 1) ≤ node nodes (2 * i))
      → HasLeaf width nodes i
  down on inner (inl one) =
      let below = on (2 * i) (omega arith) (omega arith) (omega arith) in
      let won = is.won i low inner (not_none i low) in
      let same = below.same in
      record { leaf = below.leaf; low = below.low; high = below.high; same = omega arith }
  down on inner (inr other) =
      let below = on (2 * i + 1) (omega arith) (omega arith) (omega arith) in
      let won = is.won i low inner (not_none i low) in
      let same = below.same in
      record { leaf = below.leaf; low = below.low; high = below.high; same = omega arith }

  go : ((p : ℕ) → 2 * width ≤ p + left → 1 ≤ p → p < 2 * width → HasLeaf width nodes p) → (i < width) ⊎ (width ≤ i)
      → HasLeaf width nodes i
  go on (inl inner) = down on inner (cases_lt (node nodes (2 * i)) (node nodes (2 * i + 1)))
  go on (inr outer) = record { leaf = i; low = outer; high = within; same = refl }

-- what the root has is the least of the leaves
pub root_least : (nodes : List ℕ) (rank : ℕ) → IsTournament (length nodes / 2) nodes → 1 < length nodes
    → rank ≡ get_or nodes 1 rank
    → IsLeastOf (leaves nodes) rank
root_least nodes rank is some at =
    let long = is.long in
    let half = length nodes / 2 in
    let here : rank ≡ node nodes 1 = at ∙ get_or_default nodes 1 rank no_rank some in
    let short : length (leaves nodes) ≡ half = length-drop half nodes
    ∙ (let left : length nodes - half ≡ half = omega arith in left) in
    let found = has_leaf half nodes is (length nodes) 1 (omega arith) (omega arith) (omega arith) in
    let low = found.low in
    let high = found.high in
    record {
      below = λ k inside.
          (let seen = get_or-drop half nodes k no_rank in
          let above = root_below half nodes is (half + k) (half + k) (omega arith) (omega arith) (omega arith) in
          omega arith);
      stands = inr (
        found.leaf - half,
        (let within : found.leaf - half < length (leaves nodes) = omega arith in within),
        (get_or-drop half nodes (found.leaf - half) no_rank
            ∙ ap (node nodes) (let same : half + (found.leaf - half) ≡ found.leaf = omega arith in same)
            ∙ found.same ∙ sym here),
      );
    }
