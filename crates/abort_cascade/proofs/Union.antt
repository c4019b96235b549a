-- The least closed set of several first nodes is the union of the sets of each, and is in each closed set that holds
-- those.
use Rattle.std.proofs.Common.{◌≡◌, ℕ, zero, suc, ◌<◌, Bool, true, false, List, length, get_or, set, replicate, refl}
use Rattle.std.proofs.Common.{sym, subst, inl, inr}
use Rattle.std.proofs.lemmas.Bool.{cases_eq}
use Rattle.std.proofs.lemmas.List.{get_or-set_other, get_or-set_same}
use Rattle.abort_cascade.specs.Cascade.{Marked, IsClosed, Reached, start, step, IsLeastClosed, OnlyNode, ClosesToUnion}
use Rattle.abort_cascade.specs.Cascade.{ClosesToLeast}

-- no node is marked where each mark is false
pub unmarked : (n k : ℕ) → get_or (replicate n false) k false ≡ false
unmarked zero k = refl
unmarked (suc n) zero = refl
unmarked (suc n) (suc k) = unmarked n k

module _ (count : ℕ) (pull : ℕ → ℕ → Bool) where
  -- reached from what is reached
  pub reached_twice : (firsts mids : ℕ → Type 0) → ((node : ℕ) → mids node → Reached count pull firsts node)
      → (node : ℕ) → Reached count pull mids node → Reached count pull firsts node
  reached_twice firsts mids each node (start a is) = each node is
  reached_twice firsts mids each node (step {a} b r low high pulled) =
      step b (reached_twice firsts mids each a r) low high pulled

  pub reached_one : (firsts : ℕ → Type 0) (node : ℕ) → Reached count pull firsts node
      → (first : ℕ) × firsts first × Reached count pull (OnlyNode first) node
  reached_one firsts node (start a is) = (node, is, start node refl)
  reached_one firsts node (step {a} b r low high pulled) =
      let one = reached_one firsts a r in (one.0, one.1, step b one.2 low high pulled)

  -- the first node alone, marked on cleared marks
  pub only_first : (first : ℕ) (marks : List Bool) → ((k : ℕ) → get_or marks k false ≡ false) → (node : ℕ)
      → Marked (set marks first true) node → node ≡ first
  only_first first marks none node marked = elim (cases_eq node first) [
    | inl here ↦ here
    | inr other ↦ absurd (cc (none node, get_or-set_other marks first node true false other, marked))
  ]

  pub of_one : (first : ℕ) (marks new : List Bool) → first < length marks → ((k : ℕ) → get_or marks k false ≡ false)
      → IsLeastClosed count pull (Marked (set marks first true)) new → IsLeastClosed count pull (OnlyNode first) new
  of_one first marks new within none is =
      record {
        holds =
            λ node at. is.holds node (subst (Marked (set marks first true)) (sym at) (get_or-set_same marks first true false within));
        closed = is.closed;
        reached =
            λ node marked. reached_twice (OnlyNode first) (Marked (set marks first true)) (λ k at. start k (only_first first marks none k at)) node (is.reached node marked);
      }

  -- a reached node is in each closed set that holds the first ones
  pub reached_in_closed : (firsts set : ℕ → Type 0) → ((node : ℕ) → firsts node → set node) → IsClosed count pull set
      → (node : ℕ) → Reached count pull firsts node → set node
  reached_in_closed firsts set holds closed node (start a is) = holds node is
  reached_in_closed firsts set holds closed node (step {a} b reached low high pulled) =
      closed a b low high pulled (reached_in_closed firsts set holds closed a reached)

pub is_union : ClosesToUnion
is_union count pull firsts marks is node = (
  λ marked. reached_one count pull (Marked firsts) node (is.reached node marked),
  λ one. reached_in_closed count pull (OnlyNode one.0) (Marked marks) (λ k e. subst (Marked marks) (sym e) (is.holds one.0 one.1)) is.closed node one.2,
)

pub is_least : ClosesToLeast
is_least count pull firsts marks is set holds closed node marked =
    reached_in_closed count pull (Marked firsts) (λ k. set k ≡ true) holds closed node (is.reached node marked)
