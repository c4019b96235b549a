-- The laws of a filter, for lines of each kind by their bits.
use Rattle.std.specs.Prelude.{◌≡◌, ◌&&◌, ℕ, Bool, true, false, List, []}
use Rattle.std.proofs.Common.{ap}
use Rattle.std.proofs.lemmas.Bool.{and_from, and_parts}
use Rattle.line_table.specs.declared.lines.FilterKind.{FilterKind}
use Rattle.line_table.specs.declared.lines.FilterKind.TheVariants.{Modulo, Bloom, Exact}
use Rattle.line_table.specs.declared.lines.Lines.{Lines}
use Rattle.line_table.specs.Note.{Note, touched_in, wrote_in}
use Rattle.line_table.specs.SignatureLaws as row
use Rattle.line_table.specs.Signature.{touched_of, wrote_of}
use Rattle.line_table.specs.Hash.{near_half, far_half}
use Rattle.line_table.specs.Banks.{touched_in_banks, wrote_in_banks}
use Rattle.line_table.specs.Lines.{HasLines, IsLines, bits_touch, bits_write, may_touch, may_write}
use Rattle.line_table.specs.BankLaws.{noted_in_banks, none_in_banks, written_in_banks}
use Rattle.line_table.specs.BankLaws.{wrote_touched_in_banks}

and_left : (a b : Bool) → a ≡ false → (a && b) ≡ false
and_left a b is = ap (λ c. c && b) is

module _ (size : ℕ) (lines : Lines) (notes : List Note) (line : ℕ) where
  by_touches : (kind : FilterKind) → IsLines kind size lines notes → touched_in notes line ≡ true
      → may_touch kind lines line ≡ true
  by_touches Modulo is noted = row.noted_touched lines.near notes line is.near_is noted
  by_touches Exact is noted = row.noted_touched lines.near notes line is.near_is noted
  by_touches Bloom is noted =
      and_from (touched_in_banks lines.near (near_half line)) (touched_in_banks lines.far (far_half line))
      (noted_in_banks near_half lines.near notes line is.near_is noted)
      (noted_in_banks far_half lines.far notes line is.far_is noted)

  by_writes : (kind : FilterKind) → IsLines kind size lines notes → wrote_in notes line ≡ true
      → may_write kind lines line ≡ true
  by_writes Modulo is noted = row.noted_wrote lines.near notes line is.near_is noted
  by_writes Exact is noted = row.noted_wrote lines.near notes line is.near_is noted
  by_writes Bloom is noted =
      and_from (wrote_in_banks lines.near (near_half line)) (wrote_in_banks lines.far (far_half line))
      (written_in_banks near_half lines.near notes line is.near_is noted)
      (written_in_banks far_half lines.far notes line is.far_is noted)

  by_both : (kind : FilterKind) → IsLines kind size lines notes → may_write kind lines line ≡ true
      → may_touch kind lines line ≡ true
  by_both Modulo is wrote = row.wrote_touched lines.near notes line is.near_is wrote
  by_both Exact is wrote = row.wrote_touched lines.near notes line is.near_is wrote
  by_both Bloom is wrote =
      let parts = and_parts (wrote_in_banks lines.near (near_half line)) (wrote_in_banks lines.far (far_half line))
      wrote in
      and_from (touched_in_banks lines.near (near_half line)) (touched_in_banks lines.far (far_half line))
      (wrote_touched_in_banks near_half lines.near notes line is.near_is parts.0)
      (wrote_touched_in_banks far_half lines.far notes line is.far_is parts.1)

module _ (size : ℕ) (lines : Lines) (line : ℕ) where
  no_touches : (kind : FilterKind) → IsLines kind size lines [] → may_touch kind lines line ≡ false
  no_touches Modulo is = row.cleared_touched lines.near line is.near_is
  no_touches Exact is = row.cleared_touched lines.near line is.near_is
  no_touches Bloom is =
      and_left (touched_in_banks lines.near (near_half line)) (touched_in_banks lines.far (far_half line))
      (none_in_banks (touched_of lines.near) (near_half line)
      (λ place. row.cleared_touched lines.near place is.near_is))

  no_writes : (kind : FilterKind) → IsLines kind size lines [] → may_write kind lines line ≡ false
  no_writes Modulo is = row.cleared_wrote lines.near line is.near_is
  no_writes Exact is = row.cleared_wrote lines.near line is.near_is
  no_writes Bloom is =
      and_left (wrote_in_banks lines.near (near_half line)) (wrote_in_banks lines.far (far_half line))
      (none_in_banks (wrote_of lines.near) (near_half line)
      (λ place. row.cleared_wrote lines.near place is.near_is))

pub noted_touched : (lines : Lines) (notes : List Note) (line : ℕ) → HasLines lines notes
    → touched_in notes line ≡ true → bits_touch lines line ≡ true
noted_touched lines notes line is noted = by_touches lines.size lines notes line lines.kind is noted

pub noted_wrote : (lines : Lines) (notes : List Note) (line : ℕ) → HasLines lines notes
    → wrote_in notes line ≡ true → bits_write lines line ≡ true
noted_wrote lines notes line is noted = by_writes lines.size lines notes line lines.kind is noted

pub wrote_touched : (lines : Lines) (notes : List Note) (line : ℕ) → HasLines lines notes
    → bits_write lines line ≡ true → bits_touch lines line ≡ true
wrote_touched lines notes line is wrote = by_both lines.size lines notes line lines.kind is wrote

pub cleared_touched : (lines : Lines) (line : ℕ) → HasLines lines [] → bits_touch lines line ≡ false
cleared_touched lines line is = no_touches lines.size lines line lines.kind is

pub cleared_wrote : (lines : Lines) (line : ℕ) → HasLines lines [] → bits_write lines line ≡ false
cleared_wrote lines line is = no_writes lines.size lines line lines.kind is
