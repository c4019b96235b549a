-- The laws of a filter, for one whose answers are exactly those of its notes.
use Rattle.std.specs.Prelude.{◌≡◌, ℕ, Bool, true, false, List, [], Option, Some, None, is_some, unwrap_or, refl}
use Rattle.std.proofs.Common.{◌∙◌}
use Rattle.line_table.specs.Note.{Note, touched_in, wrote_in}
use Rattle.line_table.specs.Exact.{IsExact, written_at, touched_of, wrote_of}

pub noted_touched : (lines : List (ℕ × Bool)) (notes : List Note) (line : ℕ) → IsExact lines notes
    → touched_in notes line ≡ true → touched_of lines line ≡ true
noted_touched lines notes line is noted = is.touched_is line ∙ noted

pub noted_wrote : (lines : List (ℕ × Bool)) (notes : List Note) (line : ℕ) → IsExact lines notes
    → wrote_in notes line ≡ true → wrote_of lines line ≡ true
noted_wrote lines notes line is noted = is.wrote_is line ∙ noted

some_true : (flag : Option Bool) → unwrap_or flag false ≡ true → is_some flag ≡ true
some_true None is = is
some_true (Some b) is = refl

pub wrote_touched : (lines : List (ℕ × Bool)) (notes : List Note) (line : ℕ) → IsExact lines notes
    → wrote_of lines line ≡ true → touched_of lines line ≡ true
wrote_touched lines notes line is wrote = some_true (written_at lines line) wrote

pub cleared_touched : (lines : List (ℕ × Bool)) (line : ℕ) → IsExact lines [] → touched_of lines line ≡ false
cleared_touched lines line is = is.touched_is line

pub cleared_wrote : (lines : List (ℕ × Bool)) (line : ℕ) → IsExact lines [] → wrote_of lines line ≡ false
cleared_wrote lines line is = is.wrote_is line
