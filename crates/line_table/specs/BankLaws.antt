-- The bits of a line in four banks.
use Rattle.std.proofs.Common.{◌≡◌, ◌⊎◌, ◌==◌, ◌&&◌, ◌||◌, ℕ, ◌+◌, ◌/◌, ◌%◌, Bool, true, false, List, [], ◌∷◌}
use Rattle.std.proofs.Common.{refl, sym, ap, subst, ◌∙◌, inl, inr}
use Rattle.std.proofs.lemmas.Bool.{and_from, and_parts, eq-eqb, eqb-true, or_cases, or_left, or_right}
use Rattle.std.proofs.lemmas.List.Folds.{list_any-append}
use Rattle.line_table.specs.declared.signature.Signature.{Signature}
use Rattle.line_table.specs.Note.{Note, touched_in, wrote_in}
use Rattle.line_table.specs.Row.{same_bit}
use Rattle.line_table.specs.Signature.{IsSignature, touched_of, wrote_of, touched_beside, wrote_beside}
use Rattle.line_table.specs.SignatureLaws.{wrote_touched}
use Rattle.line_table.specs.Banks.{notes_in_banks, banks_of, each_bank, touched_in_banks, wrote_in_banks}

own_bit : (place : ℕ) → same_bit place place ≡ true
own_bit place = eq-eqb (place % 1024) (place % 1024) refl

-- a weaker test holds of each bank where a stronger one does
pub each_rises : (test other : ℕ → Bool) (half : ℕ) → ((place : ℕ) → test place ≡ true → other place ≡ true)
    → each_bank test half ≡ true → each_bank other half ≡ true
each_rises test other half rises is =
    let a = half % 256 in
    let b = 256 + half / 256 % 256 in
    let c = 512 + half / 65536 % 256 in
    let d = 768 + half / 16777216 % 256 in
    let three = and_parts (test a && test b && test c) (test d) is in
    let two = and_parts (test a && test b) (test c) three.0 in
    let one = and_parts (test a) (test b) two.0 in
    and_from (other a && other b && other c) (other d)
    (and_from (other a && other b) (other c)
    (and_from (other a) (other b) (rises a one.0) (rises b one.1)) (rises c two.1)) (rises d three.1)

-- what holds of each bit holds of the banks
each_from : (test : ℕ → Bool) (half : ℕ) → test (half % 256) ≡ true → test (256 + half / 256 % 256) ≡ true
    → test (512 + half / 65536 % 256) ≡ true → test (768 + half / 16777216 % 256) ≡ true
    → each_bank test half ≡ true
each_from test half one two three four =
    let a = half % 256 in
    let b = 256 + half / 256 % 256 in
    let c = 512 + half / 65536 % 256 in
    let d = 768 + half / 16777216 % 256 in
    and_from (test a && test b && test c) (test d)
    (and_from (test a && test b) (test c) (and_from (test a) (test b) one two) three) four

-- where the bits of a line are noted, those of a noted line are
module _ (half : ℕ → ℕ) (line place : ℕ) where
  touched_there : ((write : Bool) → touched_beside (notes_in_banks (half line) write) place ≡ true)
      → (notes : List Note)
      → touched_in notes line ≡ true → touched_beside (banks_of half notes) place ≡ true
  touched_there own [] noted = noted
  touched_there own (note ∷ notes) noted =
      list_any-append (λ n. same_bit n.line place) (notes_in_banks (half note.line) note.write) (banks_of half notes)
      ∙ by_case (touched_there own notes) (or_cases (note.line == line) (touched_in notes line) noted)
    where
      by_case : (touched_in notes line ≡ true → touched_beside (banks_of half notes) place ≡ true)
          → ((note.line == line) ≡ true) ⊎ (touched_in notes line ≡ true)
          → (touched_beside (notes_in_banks (half note.line) note.write) place
          || touched_beside (banks_of half notes) place)
          ≡ true
      by_case rest (inl here) =
          or_left (touched_beside (notes_in_banks (half note.line) note.write) place)
          (touched_beside (banks_of half notes) place)
          (subst (λ l. touched_beside (notes_in_banks (half l) note.write) place ≡ true)
          (sym (eqb-true note.line line here)) (own note.write))
      by_case rest (inr later) =
          or_right (touched_beside (notes_in_banks (half note.line) note.write) place)
          (touched_beside (banks_of half notes) place) (rest later)

  wrote_there : wrote_beside (notes_in_banks (half line) true) place ≡ true → (notes : List Note)
      → wrote_in notes line ≡ true → wrote_beside (banks_of half notes) place ≡ true
  wrote_there own [] noted = noted
  wrote_there own (note ∷ notes) noted =
      list_any-append (λ n. n.write && same_bit n.line place) (notes_in_banks (half note.line) note.write)
      (banks_of half notes)
      ∙ by_case (wrote_there own notes) (or_cases (note.write && note.line == line) (wrote_in notes line) noted)
    where
      by_case : (wrote_in notes line ≡ true → wrote_beside (banks_of half notes) place ≡ true)
          → ((note.write && note.line == line) ≡ true) ⊎ (wrote_in notes line ≡ true)
          → (wrote_beside (notes_in_banks (half note.line) note.write) place
          || wrote_beside (banks_of half notes) place)
          ≡ true
      by_case rest (inl here) =
          let parts = and_parts note.write (note.line == line) here in
          or_left (wrote_beside (notes_in_banks (half note.line) note.write) place)
          (wrote_beside (banks_of half notes) place)
          (subst (λ l. wrote_beside (notes_in_banks (half l) note.write) place ≡ true)
          (sym (eqb-true note.line line parts.1))
          (subst (λ w. wrote_beside (notes_in_banks (half line) w) place ≡ true) (sym parts.0) own))
      by_case rest (inr later) =
          or_right (wrote_beside (notes_in_banks (half note.line) note.write) place)
          (wrote_beside (banks_of half notes) place) (rest later)

-- one of four is the first, the second, the third or the fourth
module _ (a b c d : Bool) where
  first_of : a ≡ true → (a || (b || (c || (d || false)))) ≡ true
  first_of is = or_left a (b || (c || (d || false))) is

  second_of : b ≡ true → (a || (b || (c || (d || false)))) ≡ true
  second_of is = or_right a (b || (c || (d || false))) (or_left b (c || (d || false)) is)

  third_of : c ≡ true → (a || (b || (c || (d || false)))) ≡ true
  third_of is = or_right a (b || (c || (d || false))) (or_right b (c || (d || false)) (or_left c (d || false) is))

  fourth_of : d ≡ true → (a || (b || (c || (d || false)))) ≡ true
  fourth_of is =
      or_right a (b || (c || (d || false)))
      (or_right b (c || (d || false)) (or_right c (d || false) (or_left d false is)))

module _ (half : ℕ → ℕ) (signature : Signature) (notes : List Note) (line : ℕ)
    (is : IsSignature signature (banks_of half notes)) where
  -- what was noted is touched in each bank
  pub noted_in_banks : touched_in notes line ≡ true → touched_in_banks signature (half line) ≡ true
  noted_in_banks noted =
      let h = half line in
      let a = h % 256 in
      let b = 256 + h / 256 % 256 in
      let c = 512 + h / 65536 % 256 in
      let d = 768 + h / 16777216 % 256 in
      each_from (touched_of signature) h
      (is.touched_is a ∙ touched_there half line a
      (λ write. first_of (same_bit a a) (same_bit b a) (same_bit c a) (same_bit d a) (own_bit a)) notes noted)
      (is.touched_is b ∙ touched_there half line b
      (λ write. second_of (same_bit a b) (same_bit b b) (same_bit c b) (same_bit d b) (own_bit b)) notes noted)
      (is.touched_is c ∙ touched_there half line c
      (λ write. third_of (same_bit a c) (same_bit b c) (same_bit c c) (same_bit d c) (own_bit c)) notes noted)
      (is.touched_is d ∙ touched_there half line d
      (λ write. fourth_of (same_bit a d) (same_bit b d) (same_bit c d) (same_bit d d) (own_bit d)) notes noted)

  -- what was noted with a write is written in each bank
  pub written_in_banks : wrote_in notes line ≡ true → wrote_in_banks signature (half line) ≡ true
  written_in_banks noted =
      let h = half line in
      let a = h % 256 in
      let b = 256 + h / 256 % 256 in
      let c = 512 + h / 65536 % 256 in
      let d = 768 + h / 16777216 % 256 in
      each_from (wrote_of signature) h
      (is.wrote_is a ∙ wrote_there half line a
      (first_of (same_bit a a) (same_bit b a) (same_bit c a) (same_bit d a) (own_bit a)) notes noted)
      (is.wrote_is b ∙ wrote_there half line b
      (second_of (same_bit a b) (same_bit b b) (same_bit c b) (same_bit d b) (own_bit b)) notes noted)
      (is.wrote_is c ∙ wrote_there half line c
      (third_of (same_bit a c) (same_bit b c) (same_bit c c) (same_bit d c) (own_bit c)) notes noted)
      (is.wrote_is d ∙ wrote_there half line d
      (fourth_of (same_bit a d) (same_bit b d) (same_bit c d) (same_bit d d) (own_bit d)) notes noted)

  -- what is written in each bank is touched in each
  pub wrote_touched_in_banks : wrote_in_banks signature (half line) ≡ true
      → touched_in_banks signature (half line) ≡ true
  wrote_touched_in_banks =
      each_rises (wrote_of signature) (touched_of signature) (half line)
      (λ place. wrote_touched signature (banks_of half notes) place is)

-- where the bit of no line is set, no banks report a line
pub none_in_banks : (test : ℕ → Bool) (half : ℕ) → ((place : ℕ) → test place ≡ false) → each_bank test half ≡ false
none_in_banks test half none =
    ap (λ b. b && test (256 + half / 256 % 256) && test (512 + half / 65536 % 256)
    && test (768 + half / 16777216 % 256))
    (none (half % 256))
