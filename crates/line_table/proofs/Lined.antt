-- The laws of lines, of each kind.
use Rattle.std.proofs.Common.{◌≡◌, ◌==◌, ◌&&◌, ◌%◌, ℕ, Bool, true, false, List, [], ◌∷◌, refl, sym, ap, ◌∙◌}
use Rattle.std.proofs.lemmas.Bool.{and_from, and_left, and_parts}
use Rattle.std.specs.List.{list_any}
use Rattle.line_table.specs.declared.lines.FilterKind.{FilterKind}
use Rattle.line_table.specs.declared.lines.FilterKind.TheVariants.{Modulo, Bloom, Exact}
use Rattle.line_table.specs.declared.lines.Lines.{Lines}
use Rattle.line_table.specs.declared.signature.Signature.{Signature}
use Rattle.line_table.specs.Note.{Note, touched_in, wrote_in}
use Rattle.line_table.specs.Signature.{IsSignature, touched_of, wrote_of}
use Rattle.line_table.specs.SignatureLaws.{any_rises, cleared_touched, cleared_wrote, is_signature_of_none}
use Rattle.line_table.specs.SignatureLaws.{noted_touched, noted_wrote, wrote_touched}
use Rattle.line_table.specs.Hash.{near_half, far_half}
use Rattle.line_table.specs.Banks.{each_bank, touched_in_banks, wrote_in_banks}
use Rattle.line_table.specs.Lines.{IsLines, asks_too, far_notes, may_touch, may_write, near_notes, touched_by, unmarked}
use Rattle.line_table.specs.Lines.{wrote_by}
use Rattle.line_table.specs.LineLaws.{NotedIsTold, ClearedTellsNone, ExactTellsNoted, BitsTellModulo, BitsMeetModulo}
use Rattle.line_table.specs.LineLaws.{LinesAgree}
use Rattle.line_table.specs.BankLaws.{noted_in_banks, none_in_banks, written_in_banks}
use Rattle.line_table.specs.BankLaws.{wrote_touched_in_banks}
use Rattle.line_table.proofs.Signatures.{meets_of-Meet, note_beside}

-- no notes are no notes of a row, of each kind
near_none : (kind : FilterKind) (signature : Signature) → IsSignature signature (near_notes kind [])
    → IsSignature signature []
near_none Modulo signature is = is
near_none Bloom signature is = is
near_none Exact signature is = is

-- a row with no notes tells nothing, of each kind
touched_none : (kind : FilterKind) (lines : Lines) (line : ℕ) → IsSignature lines.near []
    → asks_too kind (may_touch kind lines line) false ≡ false
touched_none Modulo lines line is = cleared_touched lines.near line is
touched_none Bloom lines line is =
    and_left (touched_in_banks lines.near (near_half line)) (touched_in_banks lines.far (far_half line))
    (none_in_banks (touched_of lines.near) (near_half line) (λ place. cleared_touched lines.near place is))
touched_none Exact lines line is = ap (λ b. b && false) (cleared_touched lines.near line is)

wrote_none : (kind : FilterKind) (lines : Lines) (line : ℕ) → IsSignature lines.near []
    → asks_too kind (may_write kind lines line) false ≡ false
wrote_none Modulo lines line is = cleared_wrote lines.near line is
wrote_none Bloom lines line is =
    and_left (wrote_in_banks lines.near (near_half line)) (wrote_in_banks lines.far (far_half line))
    (none_in_banks (wrote_of lines.near) (near_half line) (λ place. cleared_wrote lines.near place is))
wrote_none Exact lines line is = ap (λ b. b && false) (cleared_wrote lines.near line is)

module _ (kind : FilterKind) (size : ℕ) (lines : Lines) where
  -- they answer as those of the kind that they are for do, also where nothing was noted
  pub touched_as : (notes : List Note) (line : ℕ) → IsLines kind size lines notes
      → touched_by lines notes line ≡ asks_too kind (may_touch kind lines line) (touched_in notes line)
  touched_as [] line is =
      let clear = near_none kind lines.near is.near_is in
      touched_none lines.kind lines line clear ∙ sym (touched_none kind lines line clear)
  touched_as (note ∷ notes) line is =
      ap (λ k. asks_too k (may_touch k lines line) (touched_in (note ∷ notes) line)) is.are_of.0

  pub wrote_as : (notes : List Note) (line : ℕ) → IsLines kind size lines notes
      → wrote_by lines notes line ≡ asks_too kind (may_write kind lines line) (wrote_in notes line)
  wrote_as [] line is =
      let clear = near_none kind lines.near is.near_is in
      wrote_none lines.kind lines line clear ∙ sym (wrote_none kind lines line clear)
  wrote_as (note ∷ notes) line is =
      ap (λ k. asks_too k (may_write k lines line) (wrote_in (note ∷ notes) line)) is.are_of.0

module _ (size : ℕ) (lines : Lines) (notes : List Note) (line : ℕ) where
  told : (kind : FilterKind) → IsLines kind size lines notes → touched_in notes line ≡ true
      → asks_too kind (may_touch kind lines line) (touched_in notes line) ≡ true
  told Modulo is noted = noted_touched lines.near notes line is.near_is noted
  told Bloom is noted =
      and_from (touched_in_banks lines.near (near_half line)) (touched_in_banks lines.far (far_half line))
      (noted_in_banks near_half lines.near notes line is.near_is noted)
      (noted_in_banks far_half lines.far notes line is.far_is noted)
  told Exact is noted =
      and_from (touched_of lines.near line) (touched_in notes line)
      (noted_touched lines.near notes line is.near_is noted) noted

  told_written : (kind : FilterKind) → IsLines kind size lines notes → wrote_in notes line ≡ true
      → asks_too kind (may_write kind lines line) (wrote_in notes line) ≡ true
  told_written Modulo is noted = noted_wrote lines.near notes line is.near_is noted
  told_written Bloom is noted =
      and_from (wrote_in_banks lines.near (near_half line)) (wrote_in_banks lines.far (far_half line))
      (written_in_banks near_half lines.near notes line is.near_is noted)
      (written_in_banks far_half lines.far notes line is.far_is noted)
  told_written Exact is noted =
      and_from (wrote_of lines.near line) (wrote_in notes line)
      (noted_wrote lines.near notes line is.near_is noted) noted

  written_touched : (kind : FilterKind) → IsLines kind size lines notes
      → asks_too kind (may_write kind lines line) (wrote_in notes line) ≡ true
      → asks_too kind (may_touch kind lines line) (touched_in notes line) ≡ true
  written_touched Modulo is wrote = wrote_touched lines.near notes line is.near_is wrote
  written_touched Bloom is wrote =
      let parts = and_parts (wrote_in_banks lines.near (near_half line)) (wrote_in_banks lines.far (far_half line))
      wrote in
      and_from (touched_in_banks lines.near (near_half line)) (touched_in_banks lines.far (far_half line))
      (wrote_touched_in_banks near_half lines.near notes line is.near_is parts.0)
      (wrote_touched_in_banks far_half lines.far notes line is.far_is parts.1)
  written_touched Exact is wrote =
      let parts = and_parts (wrote_of lines.near line) (wrote_in notes line) wrote in
      and_from (touched_of lines.near line) (touched_in notes line)
      (wrote_touched lines.near notes line is.near_is parts.0)
      (any_rises (λ note. note.write && note.line == line) (λ note. note.line == line) notes
      (λ note at. (and_parts note.write (note.line == line) at).1) parts.1)

pub noted_is_told : NotedIsTold
noted_is_told kind size lines notes line is = (
  λ noted. touched_as kind size lines notes line is ∙ told size lines notes line kind is noted,
  λ noted. wrote_as kind size lines notes line is ∙ told_written size lines notes line kind is noted,
  λ wrote. touched_as kind size lines notes line is
      ∙ written_touched size lines notes line kind is (sym (wrote_as kind size lines notes line is) ∙ wrote),
)

pub cleared_tells_none : ClearedTellsNone
cleared_tells_none kind size lines line is =
    let clear = near_none kind lines.near is.near_is in
    (touched_none lines.kind lines line clear, wrote_none lines.kind lines line clear)

-- where each noted line is told by the bits, both say what the notes say
both_noted : (bits noted : Bool) → (noted ≡ true → bits ≡ true) → (bits && noted) ≡ noted
both_noted true noted rises = refl
both_noted false true rises = rises refl
both_noted false false rises = refl

pub exact_tells_noted : ExactTellsNoted
exact_tells_noted size lines notes line is = (
  touched_as Exact size lines notes line is
      ∙ both_noted (touched_of lines.near line) (touched_in notes line)
      (noted_touched lines.near notes line is.near_is),
  wrote_as Exact size lines notes line is
      ∙ both_noted (wrote_of lines.near line) (wrote_in notes line) (noted_wrote lines.near notes line is.near_is),
)

pub bits_tell_modulo : BitsTellModulo
bits_tell_modulo size lines notes line is = (
  touched_as Modulo size lines notes line is ∙ is.near_is.touched_is line,
  wrote_as Modulo size lines notes line is ∙ is.near_is.wrote_is line,
)

pub bits_meet_modulo : BitsMeetModulo
bits_meet_modulo size one two ones twos first second = (
  λ meets.
      let both = (meets_of-Meet one.near two.near).0 meets in
      let from = note_beside ones both.0 (sym (first.near_is.wrote_is both.0) ∙ both.1) in (
        from.0,
        from.1,
        touched_as Modulo size two twos from.0 second
            ∙ second.near_is.touched_is from.0 ∙ ap (beside twos) from.2
            ∙ sym (second.near_is.touched_is both.0) ∙ both.2,
      ),
  λ meet. (meets_of-Meet one.near two.near).1 (
    meet.0,
    noted_wrote one.near ones meet.0 first.near_is meet.1,
    sym (touched_as Modulo size two twos meet.0 second) ∙ meet.2,
  ),
)
  where
    beside : List Note → ℕ → Bool
    beside notes rest = list_any (λ note. note.line % 1024 == rest) notes

-- two that have the same notes in one row answer alike in it
same_row : (one two : Signature) (notes : List Note) → IsSignature one notes → IsSignature two notes
    → ((line : ℕ) → touched_of one line ≡ touched_of two line) × ((line : ℕ) → wrote_of one line ≡ wrote_of two line)
same_row one two notes first second = (
  λ line. first.touched_is line ∙ sym (second.touched_is line),
  λ line. first.wrote_is line ∙ sym (second.wrote_is line),
)

same_touched : (kind : FilterKind) (one two : Lines) (line : ℕ)
    → ((at : ℕ) → touched_of one.near at ≡ touched_of two.near at)
    → ((at : ℕ) → touched_of one.far at ≡ touched_of two.far at)
    → may_touch kind one line ≡ may_touch kind two line
same_touched Modulo one two line near far = near line
same_touched Bloom one two line near far = λ i.
    each_bank (λ at. near at i) (near_half line) && each_bank (λ at. far at i) (far_half line)
same_touched Exact one two line near far = near line

same_wrote : (kind : FilterKind) (one two : Lines) (line : ℕ)
    → ((at : ℕ) → wrote_of one.near at ≡ wrote_of two.near at) → ((at : ℕ) → wrote_of one.far at ≡ wrote_of two.far at)
    → may_write kind one line ≡ may_write kind two line
same_wrote Modulo one two line near far = near line
same_wrote Bloom one two line near far = λ i.
    each_bank (λ at. near at i) (near_half line) && each_bank (λ at. far at i) (far_half line)
same_wrote Exact one two line near far = near line

pub lines_agree : LinesAgree
lines_agree kind size one two notes first second line =
    let near = same_row one.near two.near (near_notes kind notes) first.near_is second.near_is in
    let far = same_row one.far two.far (far_notes kind notes) first.far_is second.far_is in (
      touched_as kind size one notes line first
          ∙ ap (λ b. asks_too kind b (touched_in notes line)) (same_touched kind one two line near.0 far.0)
          ∙ sym (touched_as kind size two notes line second),
      wrote_as kind size one notes line first
          ∙ ap (λ b. asks_too kind b (wrote_in notes line)) (same_wrote kind one two line near.1 far.1)
          ∙ sym (wrote_as kind size two notes line second),
    )

-- where nothing was noted, they have no notes, for a filter of each kind
pub none_are : (kind : FilterKind) (size : ℕ) → IsLines kind size unmarked []
unfolding unmarked
none_are Modulo size = record { near_is = is_signature_of_none; far_is = is_signature_of_none; are_of = tt }
none_are Bloom size = record { near_is = is_signature_of_none; far_is = is_signature_of_none; are_of = tt }
none_are Exact size = record { near_is = is_signature_of_none; far_is = is_signature_of_none; are_of = tt }
