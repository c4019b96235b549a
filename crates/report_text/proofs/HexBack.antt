-- Hex digits that are written are read again.
use Rattle.std.proofs.Common.{◌≡◌, ℕ, ◌+◌, ◌-◌, ◌*◌, ◌/◌, ◌%◌, ◌^◌, ◌<◌, ◌≤◌, ◌==◌, nat_lt, nat_le, not, List, [], ◌∷◌}
use Rattle.std.proofs.Common.{◌++◌, Some, suc, refl, ap, ◌∙◌, arith, true, false, Bool, if◌then◌else◌}
use Rattle.std.specs.List.{flat_map}
use Rattle.std.proofs.lemmas.Grind.{common_steps}
use Rattle.std.proofs.lemmas.Bool.Decides.{nat_tests}
use Rattle.report_text.specs.Hex.{hex_digit, byte_hex, word_hex, hex_value, hex_number, hex_word, hex_bytes}
use Rattle.undo_log.specs.Number.{AreBytes}

below_ten : (d : ℕ) → d < 10 → hex_value (48 + d) ≡ Some d
below_ten d lt =
    let a : nat_le 48 (48 + d) ≡ true = grind (arith, nat_tests, common_steps) in
    let b : nat_le (48 + d) 57 ≡ true = grind (arith, nat_tests, common_steps) in
    let e : 48 + d - 48 ≡ d = omega arith in
    rw (a, b, e) refl

from_ten : (d : ℕ) → 10 ≤ d → d < 16 → hex_value (87 + d) ≡ Some d
from_ten d le lt =
    let a : nat_le 48 (87 + d) ≡ true = grind (arith, nat_tests, common_steps) in
    let b : nat_le (87 + d) 57 ≡ false = grind (arith, nat_tests, common_steps) in
    let x : nat_le 97 (87 + d) ≡ true = grind (arith, nat_tests, common_steps) in
    let y : nat_le (87 + d) 102 ≡ true = grind (arith, nat_tests, common_steps) in
    let e : 87 + d - 87 ≡ d = omega arith in
    rw (a, b, x, y, e) refl

by_range : (d : ℕ) (b : Bool) → nat_lt d 10 ≡ b → d < 16 → hex_value (if b then 48 + d else 87 + d) ≡ Some d
by_range d true is lt = below_ten d (grind (arith, nat_tests, common_steps))
by_range d false is lt = from_ten d (grind (arith, nat_tests, common_steps)) lt

pub value-digit : (d : ℕ) → d < 16 → hex_value (hex_digit d) ≡ Some d
value-digit d lt = by_range d (nat_lt d 10) refl lt

number-byte : (read b : ℕ) (ds : List ℕ) → b < 256
    → hex_number read (hex_digit (b / 16) ∷ hex_digit (b % 16) ∷ ds) ≡ hex_number (read * 256 + b) ds
number-byte read b ds lt =
    let high : b / 16 < 16 = omega arith in
    let low : b % 16 < 16 = omega arith in
    let e : (read * 16 + b / 16) * 16 + b % 16 ≡ read * 256 + b = omega arith in
    rw (value-digit (b / 16) high, value-digit (b % 16) low, e) refl

-- a word that is written is read again
pub word-back : (w : ℕ) → w < 2 ^ 32 → hex_word (word_hex w) ≡ Some w
word-back w lt =
    let b3 = w / 2 ^ 24 in
    let b2 = w / 2 ^ 16 % 2 ^ 8 in
    let b1 = w / 2 ^ 8 % 2 ^ 8 in
    let b0 = w % 2 ^ 8 in
    let e : (((0 * 256 + w / 2 ^ 24) * 256 + w / 2 ^ 16 % 2 ^ 8) * 256 + w / 2 ^ 8 % 2 ^ 8) * 256 + w % 2 ^ 8 ≡ w = omega arith in
    number-byte 0 b3 (byte_hex b2 ++ byte_hex b1 ++ byte_hex b0) (omega arith)
    ∙ number-byte (0 * 256 + b3) b2 (byte_hex b1 ++ byte_hex b0) (omega arith)
    ∙ number-byte ((0 * 256 + b3) * 256 + b2) b1 (byte_hex b0) (omega arith)
    ∙ number-byte (((0 * 256 + b3) * 256 + b2) * 256 + b1) b0 [] (omega arith)
    ∙ ap Some e

-- bytes that are written are read again
pub bytes-back : (bytes : List ℕ) → AreBytes bytes → hex_bytes (flat_map byte_hex bytes) ≡ Some bytes
bytes-back [] all = refl
bytes-back (b ∷ bs) all =
    let lt : b < 256 = all 0 in
    let high : b / 16 < 16 = omega arith in
    let low : b % 16 < 16 = omega arith in
    let e : b / 16 * 16 + b % 16 ≡ b = omega arith in
    rw (value-digit (b / 16) high, value-digit (b % 16) low, bytes-back bs (λ k. all (suc k)), e) refl

free_by : (c d : ℕ) (b : Bool) → c < 48 → not ((if b then 48 + d else 87 + d) == c) ≡ true
free_by c d true lt = let e : (48 + d == c) ≡ false = grind (arith, nat_tests, common_steps) in rw e refl
free_by c d false lt = let e : (87 + d == c) ≡ false = grind (arith, nat_tests, common_steps) in rw e refl

-- no digit is a mark below the digits
pub digit-free : (c d : ℕ) → c < 48 → not (hex_digit d == c) ≡ true
digit-free c d lt = free_by c d (nat_lt d 10) lt
