-- The kinds of a child's domains as bits: a bit more behind those of its creator, or one fewer.
use Rattle.std.proofs.Common.{◌≡◌, ℕ, zero, suc, ◌+◌, ◌*◌, ◌/◌, ◌%◌, ◌^◌, ◌<◌, ◌==◌, [], ◌∷◌, ◌++◌, refl, sym, ap, ◌∙◌}
use Rattle.std.proofs.Common.{arith}
use Rattle.std.proofs.lemmas.Grind.{pow_more}
use Rattle.std.proofs.lemmas.Nat.{div-add-mod'}
use Rattle.spec_state.specs.Tasks.{is_ordered_at, ordered_to}

-- the next power of two
power_next : (n : ℕ) → 2 ^ suc n ≡ 2 * 2 ^ n
power_next n =
    let next : suc n ≡ n + 1 = omega arith in
    let more : 2 ^ (n + 1) ≡ 2 ^ n * 2 = pow_more 2 n in
    ap (λ k. 2 ^ k) next ∙ omega (arith, more)

-- so many of the next power are twice as many of this one
scaled : (b p : ℕ) → b * (2 * p) ≡ 2 * (b * p)
scaled b p = grind arith

times_next : (b n : ℕ) → b * 2 ^ suc n ≡ 2 * (b * 2 ^ n)
times_next b n = ap (λ p. b * p) (power_next n) ∙ scaled b (2 ^ n)

-- an even number more leaves the lowest bit, and its half joins the rest
low_bit : (k p : ℕ) → (k + 2 * p) % 2 ≡ k % 2
low_bit k p = omega arith

half_of : (k p : ℕ) → (k + 2 * p) / 2 ≡ k / 2 + p
half_of k p = omega arith

-- one kind more stands last
pub ordered_more : (n k : ℕ) → ordered_to (suc n) k ≡ ordered_to n k ++ is_ordered_at n k ∷ []
ordered_more zero k = refl
ordered_more (suc n) k = ap (λ rest. is_ordered_at 0 k ∷ rest) (ordered_more n (k / 2))

-- bits from a place on leave the kinds before it
pub ordered_below : (n k b : ℕ) → ordered_to n (k + b * 2 ^ n) ≡ ordered_to n k
ordered_below zero k b = refl
ordered_below (suc n) k b =
    ap (λ p. ordered_to (suc n) (k + p)) (times_next b n)
    ∙ ap (λ low. (low == 1) ∷ ordered_to n ((k + 2 * (b * 2 ^ n)) / 2)) (low_bit k (b * 2 ^ n))
    ∙ ap (λ rest. is_ordered_at 0 k ∷ ordered_to n rest) (half_of k (b * 2 ^ n))
    ∙ ap (λ rest. is_ordered_at 0 k ∷ rest) (ordered_below n (k / 2) b)

-- so do they leave the kind at each place before it
pub kind_below : (n k b : ℕ) → is_ordered_at n (k + b * 2 ^ suc n) ≡ is_ordered_at n k
kind_below zero k b =
    ap (λ p. is_ordered_at 0 (k + p)) (times_next b zero) ∙ ap (λ low. low == 1) (low_bit k (b * 2 ^ zero))
kind_below (suc n) k b =
    ap (λ p. is_ordered_at (suc n) (k + p)) (times_next b (suc n))
    ∙ ap (is_ordered_at n) (half_of k (b * 2 ^ suc n))
    ∙ kind_below n (k / 2) b

-- the bit behind all others is the one that was put there
pub kind_added : (n k b : ℕ) → k < 2 ^ n → b < 2 → is_ordered_at n (k + b * 2 ^ n) ≡ (b == 1)
kind_added zero k b low bit = let is : (k + b * 2 ^ zero) % 2 ≡ b = omega (arith, low, bit) in ap (λ n. n == 1) is
kind_added (suc n) k b low bit =
    let next = power_next n in
    let less : k / 2 < 2 ^ n = omega (arith, low, next) in
    ap (λ p. is_ordered_at (suc n) (k + p)) (times_next b n)
    ∙ ap (is_ordered_at n) (half_of k (b * 2 ^ n))
    ∙ kind_added n (k / 2) b less bit

-- a number by what is below a place and what is from there on
parts : (k w : ℕ) → k ≡ k % w + k / w * w
parts k w = let whole = div-add-mod' k w in omega (arith, whole)

-- what is below a place has the kinds before it
pub ordered_low : (n k : ℕ) → ordered_to n (k % 2 ^ n) ≡ ordered_to n k
ordered_low n k = sym (ap (ordered_to n) (parts k (2 ^ n)) ∙ ordered_below n (k % 2 ^ n) (k / 2 ^ n))

pub kind_low : (n k : ℕ) → is_ordered_at n (k % 2 ^ suc n) ≡ is_ordered_at n k
kind_low n k = sym (ap (is_ordered_at n) (parts k (2 ^ suc n)) ∙ kind_below n (k % 2 ^ suc n) (k / 2 ^ suc n))
