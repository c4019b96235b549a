-- What a note adds to a signature, and when two signatures meet.
use Rattle.std.proofs.Common.{◌≡◌, ◌==◌, ◌&&◌, ◌||◌, ◌↔◌, ℕ, ◌/◌, ◌%◌, ◌<◌, Bool, true, false, List, [], ◌∷◌, ◌++◌}
use Rattle.std.proofs.Common.{refl, sym, ap, ◌∙◌, arith, get_or}
use Rattle.std.specs.Int.{bit_at}
use Rattle.std.specs.List.{list_any, range_with_len}
use Rattle.std.proofs.lemmas.Bool.{and_from, and_parts, eq-eqb, eqb-true}
use Rattle.std.proofs.lemmas.List.Folds.{Any-from_list_any, list_any-append, list_any-from_Any, list_any_at}
use Rattle.std.proofs.lemmas.List.FromFn.{get_or-range_with_len, length-range_with_len}
use Rattle.line_table.specs.declared.signature.Signature.{Signature}
use Rattle.line_table.specs.Note.{Note, Meet, wrote_in}
use Rattle.line_table.specs.Row.{is_set, same_bit}
use Rattle.line_table.specs.Signature.{IsSignature, touched_of, wrote_of, wrote_beside, meets_of}

or_false : (b : Bool) → (b || false) ≡ b
or_false true = refl
or_false false = refl

-- one more note
any-more : (p : Note → Bool) (notes : List Note) (note : Note)
    → list_any p (notes ++ note ∷ []) ≡ (list_any p notes || p note)
any-more p notes note = list_any-append p notes (note ∷ []) ∙ ap (λ b. list_any p notes || b) (or_false (p note))

-- a note sets the bit of its line among those of touches, and that of a store among those of writes
pub IsSignature-more : (old new : Signature) (line : ℕ) (write : Bool) (notes : List Note)
    → ((other : ℕ) → touched_of new other ≡ (touched_of old other || same_bit line other))
    → ((other : ℕ) → wrote_of new other ≡ (wrote_of old other || (write && same_bit line other)))
    → IsSignature old notes → IsSignature new (notes ++ record { line = line; write = write } ∷ [])
IsSignature-more old new line write notes touched wrote is =
    record {
      touched_is = λ other.
          touched other ∙ ap (λ b. b || same_bit line other) (is.touched_is other)
          ∙ sym (any-more (λ note. same_bit note.line other) notes (record { line = line; write = write }));
      wrote_is = λ other.
          wrote other ∙ ap (λ b. b || (write && same_bit line other)) (is.wrote_is other)
          ∙ sym (any-more (λ note. note.write && same_bit note.line other) notes (record { line = line; write = write }));
    }

-- a line and the one below 1,024 that equals it modulo 1,024 have one bit
set_below : (words : List ℕ) (line : ℕ)
    → is_set (record { words = words }) (line % 1024) ≡ is_set (record { words = words }) line
set_below words line =
    let word : line % 1024 % 1024 / 64 ≡ line % 1024 / 64 = ap (λ n. n / 64) (omega arith) in
    let place : line % 1024 % 64 ≡ line % 64 = omega arith in
    λ i. bit_at (get_or words (word i) 0) (place i) == 1

-- two tests that stand for one fact are equal
same_truth : (P : Type 0) (a b : Bool) → (a ≡ true) ↔ P → (b ≡ true) ↔ P → a ≡ b
same_truth P true b first second = sym (second.1 (first.0 refl))
same_truth P false true first second = first.1 (second.0 refl)
same_truth P false false first second = refl

any_below : (test : ℕ → Bool) (bound line : ℕ) → line < bound → test line ≡ true
    → list_any test (range_with_len 0 bound) ≡ true
any_below test bound line below is =
    list_any_at test (range_with_len 0 bound) line 0 (rw (length-range_with_len 0 bound) below)
    (ap test (get_or-range_with_len 0 bound line 0 below ∙ omega arith) ∙ is)

some_line : (test : ℕ → Bool) (bound : ℕ) → list_any test (range_with_len 0 bound) ≡ true
    → (line : ℕ) × (test line ≡ true)
some_line test bound any = let one = Any-from_list_any test (range_with_len 0 bound) any in (one.1, one.4)

-- two signatures meet exactly where they do at a line below 1,024
pub meets_of-Meet : (earlier later : Signature)
    → (meets_of earlier later ≡ true) ↔ Meet (wrote_of earlier) (touched_of later)
unfolding meets_of
meets_of-Meet earlier later = (
  λ any.
      let one = some_line (λ line. wrote_of earlier line && touched_of later line) 1024 any in
      let parts = and_parts (wrote_of earlier one.0) (touched_of later one.0) one.1 in
      (one.0, parts.0, parts.1),
  λ meet.
      any_below (λ line. wrote_of earlier line && touched_of later line) 1024 (meet.0 % 1024) (omega arith)
      (ap (λ b. b && touched_of later (meet.0 % 1024)) (set_below earlier.wrote.words meet.0 ∙ meet.1) ∙ (set_below later.touched.words meet.0 ∙ meet.2)),
)

pub meets_of-is : (earlier later : Signature) (r : Bool) → (r ≡ true) ↔ Meet (wrote_of earlier) (touched_of later)
    → r ≡ meets_of earlier later
meets_of-is earlier later r is =
    same_truth (Meet (wrote_of earlier) (touched_of later)) r (meets_of earlier later) is (meets_of-Meet earlier later)

-- where a store to a line beside this one was noted, that line was noted with a write, and has the remainder of this
-- one
pub note_beside : (notes : List Note) (line : ℕ) → wrote_beside notes line ≡ true
    → (at : ℕ) × (wrote_in notes at ≡ true) × (at % 1024 ≡ line % 1024)
note_beside notes line beside =
    let one = Any-from_list_any (λ note. note.write && same_bit note.line line) notes beside in
    let parts = and_parts one.1.write (same_bit one.1.line line) one.4 in (
      one.1.line,
      list_any-from_Any (λ note. note.write && note.line == one.1.line) notes (
        one.0,
        one.1,
        one.2,
        one.3,
        and_from one.1.write (one.1.line == one.1.line) parts.0 (eq-eqb one.1.line one.1.line refl),
      ),
      eqb-true (one.1.line % 1024) (line % 1024) parts.1,
    )
