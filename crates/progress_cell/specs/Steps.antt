-- What the operations of the cell do: a store and a load of the words, and what becomes of views where a pass is made,
-- split or joined.
use Rattle.std.specs.Prelude.{◌≡◌, ℕ, ◌<◌, ◌^◌, List, [], ◌∷◌, ◌++◌, All, slice_index}
use Rattle.progress_cell.specs.Readings.{IsAtMost, StandsIn, last_of}
use Rattle.progress_cell.specs.Rule.{reading_of, readings_of, joined_of}
use Rattle.progress_cell.specs.declared.view.PassView.{PassView}
use Rattle.progress_cell.specs.declared.view.PassView.TheVariants.{Writes, Reads}

-- a store by the writer's pass: `told` gets the reading that is stored at its end
abbrev pub PassStores : PassView → List ℕ → List ℕ → PassView → Type 0
PassStores v before after w = w ≡ Writes (readings_of v ++ reading_of after ∷ []) (joined_of v)

-- a load by a reader's pass: `seen` gets the reading of the words at its end, which isn't below its last
abbrev pub PassSees : PassView → List ℕ → List ℕ → PassView → Type 0
PassSees v before after w =
    (w ≡ Reads (readings_of v ++ reading_of after ∷ []))
    × IsAtMost (last_of (readings_of v)) (reading_of after)
    × (slice_index after 0 < 2 ^ 32)

-- a load by the writer's pass: its view stays, and `told` contains each list that it took in
abbrev pub PassConfirms : PassView → List ℕ → List ℕ → PassView → Type 0
PassConfirms v before after w = (w ≡ v) × All (λ seen. StandsIn seen (readings_of v)) (joined_of v)

-- what a pass knows that is made of the writer's or split from a reader's: the last reading that this one knows
abbrev pub new_reader : PassView → PassView
new_reader v = Reads (last_of (readings_of v) ∷ [])

-- what the writer's pass knows once it has taken a reader's in: it keeps the list of that one
abbrev pub with_joined : PassView → PassView → PassView
with_joined v w = Writes (readings_of v) (readings_of w ∷ joined_of v)
