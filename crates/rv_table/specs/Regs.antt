-- The registers as a list of 32 words.
use Rattle.std.specs.Prelude.{ℕ, List, slice_set, if◌then◌else◌, ◌==◌}

-- the registers after a write of a value, which register 0 ignores
abbrev pub set_word : List ℕ → ℕ → ℕ → List ℕ
set_word words reg value = if reg == 0 then words else slice_set words reg value
