-- Lines that are hashed to their number modulo 1,024, and the notes that they stand for.
use Rattle.std.specs.Prelude.{◌≡◌, ◌&&◌, ℕ, Bool, List}
use Rattle.std.specs.List.{list_any, range_with_len}
use Rattle.line_table.specs.declared.signature.Signature.{Signature}
use Rattle.line_table.specs.Note.{Note}
use Rattle.line_table.specs.Row.{is_set, same_bit, no_bits}

-- the bit of the line is set among those of touches
abbrev pub touched_of : Signature → ℕ → Bool
touched_of signature = is_set signature.touched

-- the bit of the line is set among those of writes
abbrev pub wrote_of : Signature → ℕ → Bool
wrote_of signature = is_set signature.wrote

-- one of the notes is of a line that equals this one modulo 1,024
abbrev pub touched_beside : List Note → ℕ → Bool
touched_beside notes line = list_any (λ note. same_bit note.line line) notes

-- one of the notes is of a store to a line that equals this one modulo 1,024
abbrev pub wrote_beside : List Note → ℕ → Bool
wrote_beside notes line = list_any (λ note. note.write && same_bit note.line line) notes

-- a line is touched exactly where some noted line equals it modulo 1,024, and written exactly where some line noted
-- with a store does
pub record IsSignature (signature : Signature) (notes : List Note) : Type 0 where
  pub touched_is : (line : ℕ) → touched_of signature line ≡ touched_beside notes line
  pub wrote_is : (line : ℕ) → wrote_of signature line ≡ wrote_beside notes line

-- the signature of no notes
unfoldable pub no_lines : Signature
no_lines = record { touched = no_bits; wrote = no_bits }

-- the first signature wrote some line below 1,024 that the second touched; each other line has the bit of one of
-- these
unfoldable pub meets_of : Signature → Signature → Bool
meets_of earlier later = list_any (λ line. wrote_of earlier line && touched_of later line) (range_with_len 0 1024)
