-- The cut of a list at the first mark.
use Rattle.std.proofs.Common.{◌≡◌, ◌≢◌, ℕ, ◌+◌, ◌<◌, ◌==◌, List, [], ◌∷◌, length, take, drop, get_or, Some, None, refl}
use Rattle.std.proofs.Common.{ap, ◌∙◌, arith, zero, suc, false, option_map, eq-eqb, rules}
use Rattle.text_lines.specs.Lines.{cut}

-- the front byte is put before what a cut of the rest gives
step_on : (c x : ℕ) (xs : List ℕ) → x ≢ c → cut c (x ∷ xs) ≡ option_map (λ p. (x ∷ p.0, p.1)) (cut c xs)
step_on c x xs ne = let e : (x == c) ≡ false = search (rules, ne) in rw e refl

-- the cut at the first c
pub cut_at : (c : ℕ) (bs : List ℕ) (i : ℕ) → i < length bs → ((k : ℕ) → k < i → get_or bs k 0 ≡ c → ⊥)
    → get_or bs i 0 ≡ c → cut c bs ≡ Some (take i bs, drop (i + 1) bs)
cut_at c [] i lt before at = absurd (omega (arith, lt))
cut_at c (x ∷ xs) zero lt before at = rw (eq-eqb x c at) refl
cut_at c (x ∷ xs) (suc i) lt before at =
    step_on c x xs (before 0 (omega arith))
    ∙ ap (option_map (λ p. (x ∷ p.0, p.1))) (cut_at c xs i (omega (arith, lt)) (λ k h. before (suc k) (omega (arith, h))) at)
    ∙ (let e : suc i + 1 ≡ suc (i + 1) = omega arith in rw e refl)

-- with no c there is no cut
pub cut_none : (c : ℕ) (bs : List ℕ) → ((k : ℕ) → k < length bs → get_or bs k 0 ≡ c → ⊥) → cut c bs ≡ None
cut_none c [] before = refl
cut_none c (x ∷ xs) before =
    step_on c x xs (before 0 (omega arith))
    ∙ ap (option_map (λ p. (x ∷ p.0, p.1))) (cut_none c xs (λ k h. before (suc k) (omega (arith, h))))
