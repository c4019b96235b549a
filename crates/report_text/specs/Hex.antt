-- Numbers in hex digits, which are in lower case.
use Rattle.std.specs.Prelude.{ℕ, ◌+◌, ◌-◌, ◌*◌, ◌/◌, ◌%◌, ◌^◌, ◌==◌, ◌&&◌, nat_lt, nat_le, List, [], ◌∷◌, ◌++◌}
use Rattle.std.specs.Prelude.{length, Some, None, option_map, if◌then◌else◌}
use Rattle.std.specs.declared.option.Option.{Option}
use Rattle.text_lines.specs.Lines.{◌>>=◌}

-- the digit of a number below 16
abbrev pub hex_digit : ℕ → ℕ
hex_digit d = if nat_lt d 10 then 48 + d else 87 + d

-- the two digits of a byte
abbrev pub byte_hex : ℕ → List ℕ
byte_hex b = hex_digit (b / 16) ∷ hex_digit (b % 16) ∷ []

-- the eight digits of a word
abbrev pub word_hex : ℕ → List ℕ
word_hex w =
    byte_hex (w / 2 ^ 24) ++ byte_hex (w / 2 ^ 16 % 2 ^ 8) ++ byte_hex (w / 2 ^ 8 % 2 ^ 8) ++ byte_hex (w % 2 ^ 8)

-- the number of a digit
abbrev pub hex_value : ℕ → Option ℕ
hex_value c =
    if nat_le 48 c && nat_le c 57 then Some (c - 48)
    else if nat_le 97 c && nat_le c 102 then Some (c - 87)
    else None

-- the number of some digits behind those that were read
abbrev pub hex_number : ℕ → List ℕ → Option ℕ
hex_number read [] = Some read
hex_number read (d ∷ ds) = hex_value d >>= λ x. hex_number (read * 16 + x) ds

-- the word of eight digits
abbrev pub hex_word : List ℕ → Option ℕ
hex_word ds = if length ds == 8 then hex_number 0 ds else None

-- the bytes of pairs of digits
abbrev pub hex_bytes : List ℕ → Option (List ℕ)
hex_bytes [] = Some []
hex_bytes (a ∷ []) = None
hex_bytes (a ∷ b ∷ ds) =
    hex_value a >>= λ x. hex_value b >>= λ y. option_map (λ bytes. (x * 16 + y) ∷ bytes) (hex_bytes ds)
