-- What a number is whose digits are all decimal ones, what a parse of them gives, and that they are text.
use Rattle.std.proofs.Common.{◌≡◌, ℕ, ◌+◌, ◌-◌, ◌*◌, ◌<◌, ◌^◌, List, length, Some, None, refl, arith, true, false}
use Rattle.std.proofs.Common.{rules, Result, Ok, Err, ap, sym, ◌∙◌, nat_lt, get_or, take}
use Rattle.std.specs.List.{list_all}
use Rattle.std.specs.Char.{is_ascii_digit}
use Rattle.std.specs.Str.{IsUtf8}
use Rattle.std.specs.Str.Parse.{digits_value, ParsesUnsigned}
use Rattle.std.specs.Result.{OkIff, result_ok}
use Rattle.std.proofs.lemmas.Int.Digits.{digits_value_more}
use Rattle.std.proofs.lemmas.Str.{IsUtf8-from_ascii, digit_value_digit}
use Rattle.std.proofs.lemmas.Fmt.{IsAscii-from_digits}
use Rattle.std.proofs.lemmas.Str.Parse.{IsNumeralModel, numerals_by_value, parse_digits, IsDigitsTest}
use Rattle.std.proofs.lemmas.Str.Parse.{digit_at, digits_value-take-le, digits_value_short}
use Rattle.text_lines.specs.Numerals.{is_plain, number}

-- digits by a test of each
pub digits_tested : IsDigitsTest (λ ds. list_all is_ascii_digit ds ≡ true)
digits_tested = search rules

pub own : IsNumeralModel (λ ds. list_all is_ascii_digit ds ≡ true) (digits_value 10)
own = numerals_by_value _ digits_tested

-- what the definition of a number gives of plain digits
number_from : (ds : List ℕ) → is_plain ds ≡ true → digits_value 10 ds < 2 ^ 32 → number ds ≡ Some (digits_value 10 ds)
number_from ds plain small =
    let e : nat_lt (digits_value 10 ds) (2 ^ 32) ≡ true = search (rules, small) in rw (plain, e) refl

number_too_large : (ds : List ℕ) → is_plain ds ≡ true → (digits_value 10 ds < 2 ^ 32 → ⊥) → number ds ≡ None
number_too_large ds plain large =
    let e : nat_lt (digits_value 10 ds) (2 ^ 32) ≡ false = search (rules, large) in rw (plain, e) refl

plain_digits : (ds : List ℕ) → is_plain ds ≡ true → (list_all is_ascii_digit ds ≡ true) × (0 < length ds)
plain_digits ds plain = grind (arith, plain)

-- one digit more, of at most nine: the number that they write stays small
pub short_next : (ds : List ℕ) (i : ℕ) → list_all is_ascii_digit ds ≡ true → length ds < 10 → i < length ds
    → (digits_value 10 (take i ds) * 10 + (get_or ds i 0 - 48) ≡ digits_value 10 (take (i + 1) ds))
    × (digits_value 10 (take (i + 1) ds) < 10 ^ 9)
short_next ds i all short lt =
    let digit = digit_value_digit (get_or ds i 0) (digit_at ds i (own.to ds all) lt) in
    let more = digits_value_more 10 ds i lt in
    let upto = digits_value-take-le 10 ds (i + 1) (omega arith) in
    let small = digits_value_short own ds 9 all (omega (arith, short)) in
    (omega (arith, digit, more), omega (arith, upto, small))

-- at most nine plain digits write a number that fits
pub number_short : (ds : List ℕ) → is_plain ds ≡ true → length ds < 10 → number ds ≡ Some (digits_value 10 ds)
number_short ds plain short =
    let small = digits_value_short own ds 9 (plain_digits ds plain).0 (omega (arith, short)) in
    number_from ds plain (omega (arith, small))

by_answer : {E : Type 0} (ds : List ℕ) (r : Result ℕ E) → is_plain ds ≡ true
    → OkIff r ((0 < length ds) × (digits_value 10 ds < 2 ^ 32)) (digits_value 10 ds) → result_ok r ≡ number ds
by_answer ds (Ok n) plain h = ap Some h.1 ∙ sym (number_from ds plain h.0.1)
by_answer ds (Err e) plain h = sym (number_too_large ds plain (λ small. h ((plain_digits ds plain).1, small)))

pub parsed_number : {E : Type 0} (ds : List ℕ) (r : Result ℕ E) → is_plain ds ≡ true → ParsesUnsigned 32 10 ds r
    → result_ok r ≡ number ds
parsed_number ds r plain h = by_answer ds r plain (parse_digits own 32 ds r h (plain_digits ds plain).0)

-- plain digits are text
pub plain_is_text : (ds : List ℕ) → is_plain ds ≡ true → IsUtf8 ds
plain_is_text ds plain = IsUtf8-from_ascii ds (IsAscii-from_digits ds (own.to ds (plain_digits ds plain).0))
