-- Decimal numbers that are written are read again, and a list without a mark is cut off whole before one.
use Rattle.std.proofs.Common.{◌≡◌, ◌<◌, ◌^◌, ◌==◌, ◌||◌, ◌∷◌, ◌++◌, ℕ, zero, suc, true, false, not, nat_lt, List, []}
use Rattle.std.proofs.Common.{length, get_or, Some, option_map, refl, rules, ap, arith}
use Rattle.std.specs.Char.{is_ascii_digit}
use Rattle.std.specs.Fmt.{decimal}
use Rattle.std.specs.List.{list_all}
use Rattle.std.proofs.lemmas.Bool.{and_parts, eq-eqb, not-true}
use Rattle.std.proofs.lemmas.Fmt.{decimal_digit, decimal_nonempty, digits_decimal, digits_value-decimal, first_decimal}
use Rattle.text_lines.specs.Lines.{cut}
use Rattle.text_lines.specs.Numerals.{number}
use Rattle.text_lines.proofs.Numbers.{own}

-- decimal digits are all digits
pub all_digits : (n : ℕ) → n < 2 ^ 64 → list_all is_ascii_digit (decimal n) ≡ true
all_digits n small = digits_decimal own n small

-- it has no zero in front of others
pub no_leading_zero : (n : ℕ) → n < 2 ^ 64 → (not (get_or (decimal n) 0 0 == 48) || length (decimal n) == 1) ≡ true
no_leading_zero zero small = rw (decimal_digit 0 (omega arith)) refl
no_leading_zero (suc n) small =
    let above : 48 < get_or (decimal (suc n)) 0 0 = first_decimal (suc n) (omega arith) small in
    let ne : (get_or (decimal (suc n)) 0 0 == 48) ≡ false = search (rules, above) in
    rw ne refl

-- a number that is written is read again
pub number_back : (n : ℕ) → n < 2 ^ 32 → number (decimal n) ≡ Some n
number_back n small =
    let some : nat_lt 0 (length (decimal n)) ≡ true = search (rules, decimal_nonempty n (omega (arith, small))) in
    let fits : nat_lt n (2 ^ 32) ≡ true = search (rules, small) in
    rw (all_digits n (omega (arith, small)), some, no_leading_zero n (omega (arith, small)), digits_value-decimal own n (omega (arith, small)), fits) refl

-- a list has no c
abbrev pub IsWithout : ℕ → List ℕ → Type 0
IsWithout c xs = list_all (λ x. not (x == c)) xs ≡ true

-- two lists that have no c have none together
pub without_both : (c : ℕ) (xs ys : List ℕ) → IsWithout c xs → IsWithout c ys → IsWithout c (xs ++ ys)
without_both c [] ys h g = g
without_both c (x ∷ xs) ys h g =
    let both = and_parts (not (x == c)) _ h in rw (both.0, without_both c xs ys both.1 g) refl

-- a list that has no c is cut off whole before a c
pub cut_without : (c : ℕ) (xs rest : List ℕ) → IsWithout c xs → cut c (xs ++ c ∷ rest) ≡ Some (xs, rest)
cut_without c [] rest h = rw (eq-eqb c c refl) refl
cut_without c (x ∷ xs) rest h =
    let both = and_parts (not (x == c)) _ h in
    let ne : (x == c) ≡ false = not-true (x == c) both.0 in
    rw ne (ap (option_map (λ p. (x ∷ p.0, p.1))) (cut_without c xs rest both.1))
