-- The lines of a task by a filter of one of three kinds, and the notes that they stand for.
use Rattle.std.specs.Prelude.{◌≡◌, ◌&&◌, ℕ, Bool, false, not, List, [], ◌∷◌}
use Rattle.line_table.specs.declared.lines.FilterKind.{FilterKind}
use Rattle.line_table.specs.declared.lines.FilterKind.TheVariants.{Modulo, Bloom, Exact}
use Rattle.line_table.specs.declared.lines.Lines.{Lines}
use Rattle.line_table.specs.declared.signature.Signature.{Signature}
use Rattle.line_table.specs.Note.{Note, touched_in, wrote_in}
use Rattle.line_table.specs.Signature.{IsSignature, touched_of, wrote_of, no_lines}
use Rattle.line_table.specs.Hash.{near_half, far_half}
use Rattle.line_table.specs.Banks.{banks_of, each_bank}

-- lines of which nothing was noted
unfoldable pub unmarked : Lines
unmarked = record { kind = Modulo; size = 0; near = no_lines; far = no_lines }

-- lines of which nothing was noted, for a filter of this kind and lines of so many bytes
unfoldable pub unmarked_of : FilterKind → ℕ → Lines
unmarked_of kind size = record { kind = kind; size = size; near = no_lines; far = no_lines }

-- what the first row of a filter has noted: the lines, or the bits of the first four banks
abbrev pub near_notes : FilterKind → List Note → List Note
near_notes Modulo notes = notes
near_notes Bloom notes = banks_of near_half notes
near_notes Exact notes = notes

-- what the second row has noted: nothing, or the bits of the last four banks
abbrev pub far_notes : FilterKind → List Note → List Note
far_notes Modulo notes = []
far_notes Bloom notes = banks_of far_half notes
far_notes Exact notes = []

-- where something was noted, they are of this kind, for lines of so many bytes
abbrev pub AreOf : FilterKind → ℕ → Lines → List Note → Type 0
AreOf kind size lines [] = Unit {0}
AreOf kind size lines (note ∷ notes) = (lines.kind ≡ kind) × (lines.size ≡ size)

-- they have these notes, for a filter of this kind and lines of so many bytes
pub record IsLines (kind : FilterKind) (size : ℕ) (lines : Lines) (notes : List Note) : Type 0 where
  pub near_is : IsSignature lines.near (near_notes kind notes)
  pub far_is : IsSignature lines.far (far_notes kind notes)
  pub are_of : AreOf kind size lines notes

-- they have these notes, for a filter of their own kind
abbrev pub HasLines : Lines → List Note → Type 0
HasLines lines = IsLines lines.kind lines.size lines

-- the bits of these rows say that the line was noted: its own bit, or one bit in each of eight banks
abbrev pub has_bits : (Signature → ℕ → Bool) → FilterKind → Lines → ℕ → Bool
has_bits row Modulo lines line = row lines.near line
has_bits row Bloom lines line =
    each_bank (row lines.near) (near_half line) && each_bank (row lines.far) (far_half line)
has_bits row Exact lines line = row lines.near line

-- the bits say that the line was touched
abbrev pub may_touch : FilterKind → Lines → ℕ → Bool
may_touch = has_bits touched_of

-- the bits say that the line was written
abbrev pub may_write : FilterKind → Lines → ℕ → Bool
may_write = has_bits wrote_of

-- the bits of lines say so of their own kind
abbrev pub bits_touch : Lines → ℕ → Bool
bits_touch lines = may_touch lines.kind lines

abbrev pub bits_write : Lines → ℕ → Bool
bits_write lines = may_write lines.kind lines

-- one look rules out a line of which the bits say this; a Bloom filter, which wants eight looks, takes none
abbrev pub is_ruled_out : FilterKind → Bool → Bool
is_ruled_out Modulo bits = not bits
is_ruled_out Bloom bits = false
is_ruled_out Exact bits = not bits

-- an exact filter asks the notes too; the others use their bits alone
abbrev pub asks_too : FilterKind → Bool → Bool → Bool
asks_too Modulo bits noted = bits
asks_too Bloom bits noted = bits
asks_too Exact bits noted = bits && noted

-- the line is reported by a filter that has these lines, where the notes are these
abbrev pub told_by : (Signature → ℕ → Bool) → (List Note → ℕ → Bool) → Lines → List Note → ℕ → Bool
told_by row noted lines notes line = asks_too lines.kind (has_bits row lines.kind lines line) (noted notes line)

-- as touched
abbrev pub touched_by : Lines → List Note → ℕ → Bool
touched_by = told_by touched_of touched_in

-- as written
abbrev pub wrote_by : Lines → List Note → ℕ → Bool
wrote_by = told_by wrote_of wrote_in
