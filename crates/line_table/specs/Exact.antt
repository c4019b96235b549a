-- Lines, each with whether it was written, and the notes that they stand for.
use Rattle.std.specs.Prelude.{◌≡◌, ℕ, Bool, false, List, Option, is_some, unwrap_or}
use Rattle.std.specs.Ordering.{nat_cmp}
use Rattle.std.specs.Map.{lookup}
use Rattle.std.specs.BTreeMap.{is_at}
use Rattle.line_table.specs.Note.{Note, touched_in, wrote_in}

-- whether the line was written, if it is there
abbrev pub written_at : List (ℕ × Bool) → ℕ → Option Bool
written_at lines line = lookup (is_at (nat_cmp line)) lines

-- the line is there
abbrev pub touched_of : List (ℕ × Bool) → ℕ → Bool
touched_of lines line = is_some (written_at lines line)

-- the line is there, and was written
abbrev pub wrote_of : List (ℕ × Bool) → ℕ → Bool
wrote_of lines line = unwrap_or (written_at lines line) false

-- the lines are those of the notes, and the written ones those of the stores among them
pub record IsExact (lines : List (ℕ × Bool)) (notes : List Note) : Type 0 where
  pub touched_is : (line : ℕ) → touched_of lines line ≡ touched_in notes line
  pub wrote_is : (line : ℕ) → wrote_of lines line ≡ wrote_in notes line
