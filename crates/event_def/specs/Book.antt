-- What contracts see of a book.
use Rattle.std.specs.Prelude.{◌+◌, ◌-◌, ◌^◌, ◌%◌, ◌==◌, ◌∷◌, ℕ, min, Bool, false, List, [], if◌then◌else◌}
use Rattle.place_policy.specs.Policy.{Policy}
use Rattle.place_policy.specs.Serving.{serving_tile}
use Rattle.trace_tap.specs.TapValue.{TapValue}
use Rattle.spec_state.specs.Effects.{EffectValue}
use Rattle.spec_state.specs.View.{View, loads}

-- a view, the placers that are left, of which the first serves, the taps, how many events have been made, and
-- whether the book was stopped
pub record BookView : Type 0 where
  pub view : View
  pub placers : List Policy
  pub taps : List TapValue
  pub steps : ℕ
  pub stopped : Bool

-- a book of this view, with these placers and taps, that wasn't stopped
abbrev pub book_of : View → List Policy → List TapValue → ℕ → BookView
book_of view placers taps steps =
    record { view = view; placers = placers; taps = taps; steps = steps; stopped = false }

-- a view, what the last event did beside its one change, and how many events have been made: what a type can keep of a
-- book, since placers and taps are functions
pub record CountedView : Type 0 where
  pub view : View
  pub effect : EffectValue
  pub steps : ℕ

-- the tile that the serving placer picks for a task of this hint, which its call promises to be there
abbrev pub picked_tile : BookView → ℕ → ℕ
picked_tile book hint = serving_tile book.placers hint (loads book.view)

-- the count of events after one more, which stays at its greatest value
abbrev pub next_count : ℕ → ℕ
next_count steps = min (steps + 1) (2 ^ 64 - 1)

-- the placers without the first one, unless that is the last
abbrev pub without_first : List Policy → List Policy
without_first [] = []
without_first (placer ∷ []) = placer ∷ []
without_first (placer ∷ next ∷ placers) = next ∷ placers

-- the placers after the commit that reached this number of commits: each serves for one phase of them, and the last
-- one serves on
abbrev pub placers_after_commit : ℕ → ℕ → List Policy → List Policy
placers_after_commit phase commits placers = if commits % phase == 0 then without_first placers else placers
