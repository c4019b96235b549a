-- The laws of a filter that hashes a line to its number modulo 1,024.
use Rattle.std.specs.Prelude.{◌≡◌, ◌==◌, ◌&&◌, ◌||◌, ◌↔◌, ℕ, ◌/◌, ◌%◌, zero, suc, Bool, true, false, List, [], ◌∷◌}
use Rattle.std.specs.Prelude.{Contains, replicate, refl}
use Rattle.std.specs.List.{list_any}
use Rattle.std.specs.Int.{bit_at}
use Rattle.std.proofs.Common.{◌∙◌, sym, ap, get_or}
use Rattle.std.proofs.lemmas.Bool.{and_from, and_parts, eq-eqb, eqb-true}
use Rattle.std.proofs.lemmas.List.Folds.{Any-from_list_any, list_any-from_Any}
use Rattle.std.proofs.lemmas.Nat.Bits.{bit_at-zero}
use Rattle.line_table.specs.declared.signature.Signature.{Signature}
use Rattle.line_table.specs.Note.{Note, touched_in, wrote_in}
use Rattle.line_table.specs.Row.{is_set, same_bit, no_bits}
use Rattle.line_table.specs.Signature.{IsSignature, touched_of, wrote_of, no_lines}

or_rises : (a b c d : Bool) → (a ≡ true → c ≡ true) → (b ≡ true → d ≡ true) → (a || b) ≡ true → (c || d) ≡ true
or_rises true b c d first rest is = ap (λ e. e || d) (first refl)
or_rises false b true d first rest is = refl
or_rises false b false d first rest is = rest is

-- where a weaker test holds of each note that a test holds of, it holds of some note where that does
pub any_rises : (p q : Note → Bool) (notes : List Note) → ((note : Note) → p note ≡ true → q note ≡ true)
    → list_any p notes ≡ true → list_any q notes ≡ true
any_rises p q [] rises is = is
any_rises p q (note ∷ notes) rises is =
    or_rises (p note) (list_any p notes) (q note) (list_any q notes) (rises note) (any_rises p q notes rises) is

-- a line has its own bit
pub equal_same : (a b : ℕ) → (a == b) ≡ true → same_bit a b ≡ true
equal_same a b is = eq-eqb (a % 1024) (b % 1024) (ap (λ n. n % 1024) (eqb-true a b is))

pub noted_touched : (signature : Signature) (notes : List Note) (line : ℕ) → IsSignature signature notes
    → touched_in notes line ≡ true → touched_of signature line ≡ true
noted_touched signature notes line is noted =
    is.touched_is line
    ∙ any_rises (λ note. note.line == line) (λ note. same_bit note.line line) notes
    (λ note. equal_same note.line line) noted

pub noted_wrote : (signature : Signature) (notes : List Note) (line : ℕ) → IsSignature signature notes
    → wrote_in notes line ≡ true → wrote_of signature line ≡ true
noted_wrote signature notes line is noted =
    is.wrote_is line
    ∙ any_rises (λ note. note.write && note.line == line) (λ note. note.write && same_bit note.line line) notes
    (λ note at.
    let parts = and_parts note.write (note.line == line) at in
    and_from note.write (same_bit note.line line) parts.0 (equal_same note.line line parts.1))
    noted

pub wrote_touched : (signature : Signature) (notes : List Note) (line : ℕ) → IsSignature signature notes
    → wrote_of signature line ≡ true → touched_of signature line ≡ true
wrote_touched signature notes line is wrote =
    is.touched_is line
    ∙ any_rises (λ note. note.write && same_bit note.line line) (λ note. same_bit note.line line) notes
    (λ note at. (and_parts note.write (same_bit note.line line) at).1)
    (sym (is.wrote_is line) ∙ wrote)

pub cleared_touched : (signature : Signature) (line : ℕ) → IsSignature signature [] → touched_of signature line ≡ false
cleared_touched signature line is = is.touched_is line

pub cleared_wrote : (signature : Signature) (line : ℕ) → IsSignature signature [] → wrote_of signature line ≡ false
cleared_wrote signature line is = is.wrote_is line

-- both lists contain the same notes, in whatever order and however often
abbrev pub SameNotes : List Note → List Note → Type 0
SameNotes xs ys = (note : Note) → Contains xs note ↔ Contains ys note

-- what two signatures answer of a line is the same where they have the same notes
abbrev pub SignaturesAgree : Type 0
SignaturesAgree =
    (one two : Signature) (xs ys : List Note) → SameNotes xs ys → IsSignature one xs → IsSignature two ys
    → (line : ℕ) → (touched_of one line ≡ touched_of two line) × (wrote_of one line ≡ wrote_of two line)

any_among : (p : Note → Bool) (xs ys : List Note) → ((note : Note) → Contains xs note → Contains ys note)
    → list_any p xs ≡ true → list_any p ys ≡ true
any_among p xs ys each any =
    let one = Any-from_list_any p xs any in
    let there = each one.1 (one.0, one.2, one.3) in
    list_any-from_Any p ys (there.0, one.1, there.1, there.2, one.4)

same_truth : (a b : Bool) → (a ≡ true → b ≡ true) → (b ≡ true → a ≡ true) → a ≡ b
same_truth true b up down = sym (up refl)
same_truth false true up down = down refl
same_truth false false up down = refl

any_same : (p : Note → Bool) (xs ys : List Note) → SameNotes xs ys → list_any p xs ≡ list_any p ys
any_same p xs ys same =
    same_truth (list_any p xs) (list_any p ys)
    (any_among p xs ys (λ note. (same note).0)) (any_among p ys xs (λ note. (same note).1))

pub signatures_agree : SignaturesAgree
signatures_agree one two xs ys same first second line = (
  first.touched_is line ∙ any_same (λ note. same_bit note.line line) xs ys same ∙ sym (second.touched_is line),
  first.wrote_is line ∙ any_same (λ note. note.write && same_bit note.line line) xs ys same
      ∙ sym (second.wrote_is line),
)

zeroes_only : (n k : ℕ) → ◌≡◌ {A = ℕ} (get_or (replicate n 0) k 0) 0
zeroes_only zero k = refl
zeroes_only (suc n) zero = refl
zeroes_only (suc n) (suc k) = zeroes_only n k

unset : (line : ℕ) → is_set no_bits line ≡ false
unfolding no_bits
unset line = ap (λ word. bit_at word (line % 64) == 1) (zeroes_only 16 (line % 1024 / 64))
    ∙ ap (λ bit. bit == 1) (bit_at-zero (line % 64))

-- the signature of no notes is one
pub is_signature_of_none : IsSignature no_lines []
unfolding no_lines
is_signature_of_none = record { touched_is = unset; wrote_is = unset }
