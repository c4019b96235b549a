-- The order of uncommitted tasks, by key and then by spot, tells any two spots apart.
use Rattle.std.proofs.Common.{◌≡◌, ◌≢◌, ℕ, refl, ap, ◌∙◌}
use Rattle.std.specs.Ordering.{nat_cmp, ordering_then, ordering_reverse}
use Rattle.std.specs.declared.cmp.Ordering.{Ordering}
use Rattle.std.specs.declared.cmp.Ordering.TheVariants.{Less, Equal, Greater}
use Rattle.std.proofs.lemmas.Cmp.{nat_cmp_total}
use Rattle.fractal_vt.specs.declared.key.Key.{Key}
use Rattle.fractal_vt.proofs.Proved.{key_cmp_total, both_equal}
use Rattle.spec_state.specs.Least.{Spot, Queued, Spilled_at, place_cmp, spot_cmp, ranked_cmp}
use Rattle.spec_state.proofs.Proved.{tied_place}
use Rattle.spec_law.specs.Laws.{LeastIsOne}

-- two answers after one another, from those the other way round
then_turned : (o p q r : Ordering) → o ≡ ordering_reverse q → p ≡ ordering_reverse r
    → ordering_then o p ≡ ordering_reverse (ordering_then q r)
then_turned o p Less r first second = ap (λ x. ordering_then x p) first
then_turned o p Equal r first second = ap (λ x. ordering_then x p) first ∙ second
then_turned o p Greater r first second = ap (λ x. ordering_then x p) first

-- what is not greater either way is a tie
pub not_greater_ties : (o q : Ordering) → o ≡ ordering_reverse q → o ≢ Greater → q ≢ Greater → o ≡ Equal
not_greater_ties o Less turned low high = absurd (low turned)
not_greater_ties o Equal turned low high = turned
not_greater_ties o Greater turned low high = absurd (high refl)

-- places the other way round
place_turned : (t p u q : ℕ) → place_cmp t p u q ≡ ordering_reverse (place_cmp u q t p)
place_turned t p u q =
    then_turned (nat_cmp t u) (nat_cmp p q) (nat_cmp u t) (nat_cmp q p) (nat_cmp_total.antisymm t u) (nat_cmp_total.antisymm p q)

-- spots the other way round
pub spot_turned : (a b : Spot) → spot_cmp a b ≡ ordering_reverse (spot_cmp b a)
spot_turned (Queued t p) (Queued u q) = place_turned t p u q
spot_turned (Queued t p) (Spilled_at u q) = refl
spot_turned (Spilled_at t p) (Queued u q) = refl
spot_turned (Spilled_at t p) (Spilled_at u q) = place_turned t p u q

-- spots that tie are one
pub same_spot : (a b : Spot) → spot_cmp a b ≡ Equal → a ≡ b
same_spot (Queued t p) (Queued u q) e = let both = tied_place t p u q e in λ i. Queued (both.0 i) (both.1 i)
same_spot (Queued t p) (Spilled_at u q) e = absurd (cc)
same_spot (Spilled_at t p) (Queued u q) e = absurd (cc)
same_spot (Spilled_at t p) (Spilled_at u q) e = let both = tied_place t p u q e in λ i. Spilled_at (both.0 i) (both.1 i)

-- ranks the other way round
pub ranked_turned : (key : Key) (a : Spot) (other : Key) (b : Spot)
    → ranked_cmp key a other b ≡ ordering_reverse (ranked_cmp other b key a)
ranked_turned key a other b =
    then_turned _ (spot_cmp a b) _ (spot_cmp b a) (key_cmp_total.antisymm key other) (spot_turned a b)

-- two spots of least tasks are one
pub least_is_one : LeastIsOne
least_is_one view a b one two =
    let tie = not_greater_ties (ranked_cmp one.key a two.key b) (ranked_cmp two.key b one.key a) (ranked_turned one.key a two.key b)
    (one.least b two.key two.has) (two.least a one.key one.has) in
    same_spot a b (both_equal _ (spot_cmp a b) tie).1
