-- Decimal numbers that are written are read again, and where a line ends.
use Rattle.std.proofs.Common.{◌≡◌, ◌≢◌, ℕ, ◌/◌, ◌%◌, ◌<◌, ◌≤◌, ◌^◌, ◌==◌, nat_le, option_map, List, [], ◌∷◌, ◌++◌}
use Rattle.std.proofs.Common.{length, get_or, Some, None, refl, ap, arith, rules, true, false, Bool, suc, eq-eqb, subst}
use Rattle.std.proofs.Common.{length-append}
use Rattle.std.specs.Fmt.{decimal}
use Rattle.std.specs.List.{list_all, flat_map}
use Rattle.std.specs.Char.{is_ascii_digit}
use Rattle.std.specs.Int.{IsInRange}
use Rattle.std.specs.Str.{bytes_eq}
use Rattle.std.proofs.lemmas.Bool.{and_parts, and_right, eqb-true}
use Rattle.std.proofs.lemmas.Str.Parse.{not_in_digits}
use Rattle.std.proofs.lemmas.List.{take_at, drop_at}
use Rattle.report_text.specs.Hex.{byte_hex, word_hex}
use Rattle.text_lines.specs.Lines.{cut, behind, lines_of}
use Rattle.text_lines.specs.Numerals.{field}
use Rattle.text_lines.proofs.Proved.{lines_cut, own, all_digits, number_back, IsWithout, without_both}
use Rattle.text_lines.proofs.Proved.{cut_without}
use Rattle.report_text.proofs.HexBack.{digit-free}

-- a list that has no c is cut off whole before a c
cut_before : (c : ℕ) (xs rest : List ℕ) → ((k : ℕ) → k < length xs → get_or xs k 0 ≢ c)
    → cut c (xs ++ c ∷ rest) ≡ Some (xs, rest)
cut_before c [] rest none = rw (eq-eqb c c refl) refl
cut_before c (x ∷ xs) rest none =
    let ne : (x == c) ≡ false = search (rules, none 0 (omega arith)) in
    rw ne (ap (option_map (λ p. (x ∷ p.0, p.1))) (cut_before c xs rest (λ k lt. none (suc k) (omega (arith, lt)))))

no_digit : (n c : ℕ) → n < 2 ^ 64 → (IsInRange 48 57 c → ⊥) → (k : ℕ) → k < length (decimal n)
    → get_or (decimal n) k 0 ≢ c
no_digit n c small out k lt = not_in_digits own (decimal n) c (all_digits n small) out k lt

-- and so is a field
pub field_back : (n c : ℕ) (rest : List ℕ) → n < 2 ^ 32 → (IsInRange 48 57 c → ⊥)
    → field c (decimal n ++ c ∷ rest) ≡ Some (n, rest)
field_back n c rest small out =
    rw (cut_before c (decimal n) rest (no_digit n c (omega (arith, small)) out), number_back n small) refl

pub space : IsInRange 48 57 32 → ⊥
space h = omega (arith, h)

pub dot : IsInRange 48 57 46 → ⊥
dot h = omega (arith, h)

-- ---- lines

digit_free : (x : ℕ) (b : Bool) → (x == 10) ≡ b → is_ascii_digit x ≡ true → b ≡ false
digit_free x false is digit = refl
digit_free x true is digit =
    let bad : is_ascii_digit 10 ≡ true = subst (λ k. is_ascii_digit k ≡ true) (eqb-true x 10 is) digit in cc

digits_free : (xs : List ℕ) → list_all is_ascii_digit xs ≡ true → IsWithout 10 xs
digits_free [] h = refl
digits_free (x ∷ xs) h =
    let both = and_parts (is_ascii_digit x) _ h in
    let e : (x == 10) ≡ false = digit_free x (x == 10) refl both.0 in
    rw (e, digits_free xs both.1) refl

pub number_free : (n : ℕ) → n < 2 ^ 32 → IsWithout 10 (decimal n)
number_free n small = digits_free (decimal n) (all_digits n (omega (arith, small)))

pub byte_free : (c b : ℕ) → c < 48 → IsWithout c (byte_hex b)
byte_free c b lt = rw (digit-free c (b / 16) lt, digit-free c (b % 16) lt) refl

pub bytes_free : (c : ℕ) (bytes : List ℕ) → c < 48 → IsWithout c (flat_map byte_hex bytes)
bytes_free c [] lt = refl
bytes_free c (b ∷ bs) lt = without_both c (byte_hex b) (flat_map byte_hex bs) (byte_free c b lt) (bytes_free c bs lt)

pub word_free : (c w : ℕ) → c < 48 → IsWithout c (word_hex w)
word_free c w lt =
    let b3 = byte_hex (w / 2 ^ 24) in
    let b2 = byte_hex (w / 2 ^ 16 % 2 ^ 8) in
    let b1 = byte_hex (w / 2 ^ 8 % 2 ^ 8) in
    let b0 = byte_hex (w % 2 ^ 8) in
    without_both c (b3 ++ b2 ++ b1) b0
    (without_both c (b3 ++ b2) b1 (without_both c b3 b2 (byte_free c (w / 2 ^ 24) lt) (byte_free c (w / 2 ^ 16 % 2 ^ 8) lt)) (byte_free c (w / 2 ^ 8 % 2 ^ 8) lt))
    (byte_free c (w % 2 ^ 8) lt)

-- a line with its newline, and more lines
pub lines_on : (line rest : List ℕ) → IsWithout 10 line → lines_of (line ++ 10 ∷ rest) ≡ line ∷ lines_of rest
lines_on line rest free = lines_cut (line ++ 10 ∷ rest) line rest (cut_without 10 line rest free)

bytes_eq-self : (xs : List ℕ) → bytes_eq xs xs ≡ true
bytes_eq-self [] = refl
bytes_eq-self (x ∷ xs) = rw (eq-eqb x x refl, bytes_eq-self xs) refl

-- what stands behind a front that was put there
pub behind_front : (front rest : List ℕ) → behind front (front ++ rest) ≡ Some rest
unfolding behind
behind_front front rest =
    let le : nat_le (length front) (length (front ++ rest)) ≡ true = (let h : length front ≤ length (front ++ rest) = omega (arith, length-append front rest) in search (rules, h)) in
    rw (le, take_at front rest (length front) refl, bytes_eq-self front, drop_at front rest (length front) refl) refl

-- nothing stands behind a front that begins otherwise
pub behind_other : (f x : ℕ) (front rest : List ℕ) → (x == f) ≡ false → behind (f ∷ front) (x ∷ rest) ≡ None
unfolding behind
behind_other f x front rest ne = rw (ne, and_right (nat_le (length (f ∷ front)) (length (x ∷ rest))) false refl) refl
