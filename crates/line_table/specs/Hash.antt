-- Eight hashes of a line's number, of 8 bits each, as one number of 64 bits: the class H3 of Carter and Wegman (1979).
use Rattle.std.specs.Prelude.{ℕ, ◌==◌, ◌/◌, ◌%◌, List, map, filter, if◌then◌else◌, bit_xor, slice_index}
use Rattle.std.specs.Int.{bit_at}
use Rattle.std.specs.List.{fold, range_with_len}
use Rattle.line_table.specs.declared.hash.TheConstants.{DIGITS}

-- where the bit of the number is set, the digits of pi that stand for it are added, without carry
abbrev pub mix : ℕ → ℕ → ℕ → ℕ
mix line mixed bit = if bit_at line bit == 1 then bit_xor mixed (slice_index DIGITS bit) else mixed

-- the digits of pi that stand for those of so many bits of the number, from the lowest, that are set
abbrev pub digits_below : ℕ → ℕ → List ℕ
digits_below line bits = map (slice_index DIGITS) (filter (λ bit. bit_at line bit == 1) (range_with_len 0 bits))

-- the sum without carry of those of all 32 bits
unfoldable pub hashes : ℕ → ℕ
hashes line = fold bit_xor 0 (digits_below line 32)

-- the first four hashes, and the last four
abbrev pub near_half : ℕ → ℕ
near_half line = hashes line % 4294967296

abbrev pub far_half : ℕ → ℕ
far_half line = hashes line / 4294967296
