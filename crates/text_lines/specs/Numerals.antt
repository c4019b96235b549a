-- Numbers in decimal digits.
use Rattle.std.specs.Prelude.{ℕ, ◌^◌, ◌==◌, ◌&&◌, ◌||◌, not, Bool, nat_lt, List, length, slice_index, Some, None}
use Rattle.std.specs.Prelude.{if◌then◌else◌}
use Rattle.std.specs.declared.option.Option.{Option}
use Rattle.std.specs.List.{list_all}
use Rattle.std.specs.Char.{is_ascii_digit}
use Rattle.std.specs.Str.Parse.{digits_value}
use Rattle.text_lines.specs.Lines.{◌>>=◌, cut}

-- decimal digits without a leading zero
abbrev pub is_plain : List ℕ → Bool
is_plain ds = list_all is_ascii_digit ds && (nat_lt 0 (length ds) && (not (slice_index ds 0 == 48) || length ds == 1))

-- the number below 2 ^ 32 that they write
abbrev pub number : List ℕ → Option ℕ
number ds = if is_plain ds && nat_lt (digits_value 10 ds) (2 ^ 32) then Some (digits_value 10 ds) else None

-- the number before the first `mark`, and the rest after it
abbrev pub field : ℕ → List ℕ → Option (ℕ × List ℕ)
field mark line = cut mark line >>= λ p. number p.0 >>= λ n. Some (n, p.1)

-- the number below `bound` that they write
unfoldable pub number_below : ℕ → List ℕ → Option ℕ
number_below bound ds = number ds >>= λ n. if nat_lt n bound then Some n else None
