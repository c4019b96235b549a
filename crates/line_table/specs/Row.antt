-- Rows of 1,024 bits, one for each remainder of a line's number.
use Rattle.std.specs.Prelude.{◌≡◌, ◌==◌, ◌/◌, ◌%◌, ℕ, Bool, true, slice_index, replicate}
use Rattle.std.specs.Int.{bit_at}
use Rattle.line_table.specs.declared.row.BitRow.{BitRow}

-- the bit of the line is set; a word has 64 bits, and the lowest bit of the first word is that of line 0
abbrev pub is_set : BitRow → ℕ → Bool
is_set row line = bit_at (slice_index row.words (line % 1024 / 64)) (line % 64) == 1

-- the two lines have one bit
abbrev pub same_bit : ℕ → ℕ → Bool
same_bit line other = line % 1024 == other % 1024

-- the row with no bit set
unfoldable pub no_bits : BitRow
no_bits = record { words = replicate 16 0 }

-- some bit is set in both rows
abbrev pub ShareBit : BitRow → BitRow → Type 0
ShareBit one two = (line : ℕ) × (is_set one line ≡ true) × (is_set two line ≡ true)
