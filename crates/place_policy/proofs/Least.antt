-- The first place of the least load.
use Rattle.std.proofs.Common.{◌≡◌, ℕ, ◌<◌, ◌≤◌, Bool, List, [], ◌∷◌, length, get_or, nat_le, true, arith, refl, sym}
use Rattle.std.proofs.Common.{suc}
use Rattle.std.specs.List.{list_all}
use Rattle.std.proofs.lemmas.List.Sums.{position_or_len_is}
use Rattle.std.proofs.lemmas.List.Folds.{list_all_at}
use Rattle.place_policy.specs.Policies.{least_place}

-- a test that holds at each place holds of all
list_all_each : (p : ℕ → Bool) (xs : List ℕ) → ((k : ℕ) → k < length xs → p (get_or xs k 0) ≡ true)
    → list_all p xs ≡ true
list_all_each p [] each = refl
list_all_each p (x ∷ xs) each =
    let front : p x ≡ true = each 0 (omega arith) in
    rw front (list_all_each p xs (λ k lt. each (suc k) (omega (arith, lt))))

-- a place whose load is at most every load, and below each load before it, is the first place of the least load
pub least_place_is : (loads : List ℕ) (n i : ℕ) → length loads ≤ n → i < length loads
    → ((k : ℕ) → k < n → get_or loads i 0 ≤ get_or loads k 0) → ((k : ℕ) → k < i → get_or loads i 0 < get_or loads k 0)
    → i ≡ least_place loads
least_place_is loads n i whole lt least first =
    sym
    (position_or_len_is (λ load. list_all (λ other. nat_le load other) loads) loads i 0 (omega (arith, lt))
    (λ k before. list_all_at (λ other. nat_le (get_or loads k 0) other) loads i 0 lt (let above : get_or loads i 0 < get_or loads k 0 = first k before in grind arith))
    (λ _. list_all_each (λ other. nat_le (get_or loads i 0) other) loads (λ k inside. let below : get_or loads i 0 ≤ get_or loads k 0 = least k (omega (arith, inside, whole)) in grind arith)))
