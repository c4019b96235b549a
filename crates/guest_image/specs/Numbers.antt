-- Little-endian numbers in a list of bytes.
use Rattle.std.specs.Prelude.{ℕ, List, drop}
use Rattle.byteorder.specs.Endian.{little_number, little_bytes}

-- the number in the 4 bytes from an offset on
unfoldable pub word_at : List ℕ → ℕ → ℕ
word_at bytes at = little_number 4 (drop at bytes)

-- the number in the 2 bytes from an offset on
unfoldable pub half_at : List ℕ → ℕ → ℕ
half_at bytes at = little_number 2 (drop at bytes)

-- the 4 bytes of a number
abbrev pub word_bytes : ℕ → List ℕ
word_bytes n = little_bytes 4 n

-- the 2 bytes of a number
abbrev pub half_bytes : ℕ → List ℕ
half_bytes n = little_bytes 2 n
