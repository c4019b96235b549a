-- What always holds of the two words of a board's cell and of what its passes know.
use Rattle.std.specs.Prelude.{◌≡◌, ℕ, ◌<◌, ◌^◌, List, [], All, length, slice_index}
use mathlib.Core.Option.{some}
use lib.ListN.{get_elem?}
use Rattle.progress_cell.specs.Readings.{IsAtMost, NeverFalls, StandsIn, last_of}
use Rattle.progress_cell.specs.declared.reading.Reading.{Reading}
use Rattle.progress_cell.specs.declared.view.PassView.{PassView}
use Rattle.progress_cell.specs.declared.view.PassView.TheVariants.{Writes, Reads, Spent}

-- the reading that two words are
abbrev pub reading_of : List ℕ → Reading
reading_of words = record { commits = slice_index words 0; output = slice_index words 1 }

-- the readings that a pass wrote or saw
abbrev pub readings_of : PassView → List Reading
readings_of (Writes told joined) = told
readings_of (Reads seen) = seen
readings_of Spent = []

-- the lists that the writer took in
abbrev pub joined_of : PassView → List (List Reading)
joined_of (Writes told joined) = joined
joined_of (Reads seen) = []
joined_of Spent = []

-- the writer's pass, the readings that it wrote and the lists that it took in
pub record Telling : Type 0 where
  pub writer : ℕ
  pub told : List Reading
  pub joined : List (List Reading)

-- the words are the last reading of `told`, which never falls, and the first of them has 32 bits; `told` contains each
-- list that the writer took in
pub record IsTold (telling : Telling) (words : List ℕ) : Type 0 where
  pub some : 0 < length telling.told
  pub last : reading_of words ≡ last_of telling.told
  pub narrow : slice_index words 0 < 2 ^ 32
  pub never_falls : NeverFalls telling.told
  pub joined_stand : All (λ seen. StandsIn seen telling.told) telling.joined

-- what a pass may know: the writer's, and no other, knows what was written and taken in; `told` contains what a reader
-- saw, and its last reading isn't above the words; of a spent pass nothing is asked
abbrev pub PassFits : Telling → List ℕ → ℕ → PassView → Type 0
PassFits telling words pass (Writes told joined) =
    (pass ≡ telling.writer) × (told ≡ telling.told) × (joined ≡ telling.joined)
PassFits telling words pass (Reads seen) = StandsIn seen telling.told × IsAtMost (last_of seen) (reading_of words)
PassFits telling words pass Spent = Unit {0}

-- what each pass knows fits
abbrev pub AllFit : Telling → List ℕ → List PassView → Type 0
AllFit telling words views = (pass : ℕ) (v : PassView) → get_elem? views pass ≡ some v → PassFits telling words pass v

-- the rule: there is a history of readings that the words and all that is known fit
pub record RuleHolds (words : List ℕ) (views : List PassView) : Type 0 where
  pub telling : Telling
  pub told : IsTold telling words
  pub fit : AllFit telling words views
