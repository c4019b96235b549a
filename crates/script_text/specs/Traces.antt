-- The text of what taps saw.
use Rattle.std.specs.Prelude.{ℕ, List, ◌++◌, codes, decimal, length}
use Rattle.std.specs.List.{enumerate_from, flat_map}

-- the line of a tap beside its list: `tap <k> <length>`
unfoldable pub tap_line : ℕ × List ℕ → List ℕ
tap_line tap = codes "tap " ++ decimal tap.0 ++ codes " " ++ decimal (length tap.1) ++ codes "\n"

-- the line of a number
unfoldable pub number_line : ℕ → List ℕ
number_line number = decimal number ++ codes "\n"

-- the line of a tap, and one for each number of its list
unfoldable pub tap_lines : ℕ × List ℕ → List ℕ
tap_lines tap = tap_line tap ++ flat_map number_line tap.1

-- the lists of taps, which are counted from 0, between the first line and the last
unfoldable pub trace_text : List (List ℕ) → List ℕ
trace_text lists = codes "trace 1\n" ++ flat_map tap_lines (enumerate_from 0 lists) ++ codes "end trace\n"
