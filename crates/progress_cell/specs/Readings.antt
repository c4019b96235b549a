-- Readings and lists of them.
use Rattle.std.specs.Prelude.{◌≡◌, ℕ, ◌≤◌, List, [], ◌∷◌, Some, slice_get, AllPairs}
use Rattle.std.specs.List.{AllZip}
use Rattle.progress_cell.specs.declared.reading.Reading.{Reading}

-- nothing is committed and nothing emitted
abbrev pub opening_reading : Reading
opening_reading = record { commits = 0; output = 0 }

-- neither number of the first is above that of the second
abbrev pub IsAtMost : Reading → Reading → Type 0
IsAtMost one other = (one.commits ≤ other.commits) × (one.output ≤ other.output)

-- no reading is above a later one
abbrev pub NeverFalls : List Reading → Type 0
NeverFalls readings = AllPairs IsAtMost readings

-- the last of some readings; of none it is the opening
abbrev pub last_of : List Reading → Reading
last_of [] = opening_reading
last_of (reading ∷ []) = reading
last_of (reading ∷ next ∷ rest) = last_of (next ∷ rest)

-- a list has this reading at this place
abbrev pub IsAtPlace : List Reading → ℕ → Reading → Type 0
IsAtPlace readings place reading = slice_get readings place ≡ Some reading

-- `told` contains each reading of `seen`, at places that never fall
pub record StandsIn (seen told : List Reading) : Type 0 where
  pub places : List ℕ
  pub never_fall : AllPairs (λ place later. place ≤ later) places
  pub stand : AllZip (IsAtPlace told) places seen
