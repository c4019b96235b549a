-- Sums over the numbers from 0 on, and over lists, as far as a loop has come.
use Rattle.std.proofs.Common.{◌≡◌, ◌∙◌, ◌≤◌, ℕ, ◌+◌, Bool, true, false, ap, arith, refl, sym}
use Rattle.std.specs.Prelude.{cond, count_by, sum_by}
use Rattle.std.specs.List.{range_with_len}
use Rattle.std.proofs.lemmas.List.{map-id}
use Rattle.std.proofs.lemmas.List.FromFn.{length-range_with_len, sum_by-map-range_with_len_more}
use Rattle.std.proofs.lemmas.List.Sums.{count_by-le-length}
use Rattle.watch_counts.specs.Capped.{capped}

-- one number more
pub sum_more : (f : ℕ → ℕ) (count : ℕ)
    → sum_by f (range_with_len 0 count) + f count ≡ sum_by f (range_with_len 0 (count + 1))
sum_more f count =
    ap (λ numbers. sum_by f numbers + f count) (sym (map-id (range_with_len 0 count)))
    ∙ sym (sum_by-map-range_with_len_more f (λ (n : ℕ). n) 0 count count (omega arith))
    ∙ ap (sum_by f) (map-id (range_with_len 0 (count + 1)))

-- one more that passes a test, or doesn't
pub count_more : (test : ℕ → Bool) (count found new : ℕ) → found ≡ count_by test (range_with_len 0 count)
    → new ≡ found + cond (test count) 1 0 → new ≡ count_by test (range_with_len 0 (count + 1))
count_more test count found new so more =
    more ∙ ap (λ n. n + cond (test count) 1 0) so ∙ sum_more (λ k. cond (test k) 1 0) count

-- no more pass than there are
pub few : (test : ℕ → Bool) (count found : ℕ) → found ≡ count_by test (range_with_len 0 count) → found ≤ count
few test count found so =
    let within = count_by-le-length test (range_with_len 0 count) in
    let all = length-range_with_len 0 count in
    omega (arith, so, within, all)

-- a sum of no number
pub capped_none : 0 ≡ capped 0
unfolding capped
capped_none = refl

-- a sum that stops, of one number more
pub capped_sum_more : (f : ℕ → ℕ) (count old new : ℕ) → old ≡ capped (sum_by f (range_with_len 0 count))
    → ((c : ℕ) → old ≡ capped c → new ≡ capped (c + f count)) → new ≡ capped (sum_by f (range_with_len 0 (count + 1)))
capped_sum_more f count old new so more =
    more (sum_by f (range_with_len 0 count)) so ∙ ap capped (sum_more f count)

-- at most one more
pub few_more : (holds : Bool) (old new count : ℕ) → new ≡ old + cond holds 1 0 → old ≤ count → new ≤ count + 1
few_more true old new count is few = omega (arith, is, few)
few_more false old new count is few = omega (arith, is, few)

-- a sum, with those that pass a test: one more of them, or not
pub sum_count_more : (test : ℕ → Bool) (sum count old new : ℕ) → old ≡ sum + count_by test (range_with_len 0 count)
    → new ≡ old + cond (test count) 1 0 → new ≡ sum + count_by test (range_with_len 0 (count + 1))
sum_count_more test sum count old new so more =
    let one = sum_more (λ k. cond (test k) 1 0) count in omega (arith, so, more, one)
