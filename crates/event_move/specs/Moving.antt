-- The outcome of an event that moves tasks, whatever placers and taps a book has.
use Rattle.std.specs.Prelude.{ℕ, List, length}
use Rattle.place_policy.specs.Policy.{Policy}
use Rattle.trace_tap.specs.TapValue.{TapValue}
use Rattle.event_prelude.specs.spec_state.Effects.{EffectValue}
use Rattle.event_prelude.specs.spec_state.View.{View}
use Rattle.event_prelude.specs.event_def.declared.event.Came.{Came}
use Rattle.event_prelude.specs.event_def.declared.event.Came.TheVariants.{Made, Refused}
use Rattle.event_prelude.specs.event_def.declared.event.Event.{Event}
use Rattle.event_prelude.specs.event_def.declared.event.Event.TheVariants as event
use Rattle.event_prelude.specs.event_def.Book.{book_of, placers_after_commit}
use Rattle.event_prelude.specs.event_def.Telling.{ComesTelling}

-- from a view an event leads to another one and reports what it did, or is refused, as in a book with any placers and
-- taps, and the placers stay
abbrev pub ComesSo : (N : Type 0) → View → Event N → Came → View → EffectValue → Type 0
ComesSo N old event came new effect =
    (placers : List Policy) (taps : List TapValue) (steps : ℕ)
    → ComesTelling (book_of old placers taps steps) event came new placers effect

-- the placers after a commit that was made, and as they were where it was refused
abbrev pub placers_after : ℕ → ℕ → Came → List Policy → List Policy
placers_after phase commits (Made seen) placers = placers_after_commit phase commits placers
placers_after phase commits (Refused reply) placers = placers

-- the same of a commit, after which another placer may serve
abbrev pub CommitComes : (N : Type 0) → View → Came → View → EffectValue → Type 0
CommitComes N old came new effect =
    (placers : List Policy) (taps : List TapValue) (steps : ℕ)
    → ComesTelling {N = N} (book_of old placers taps steps) event.Commit came new
    (placers_after old.settings.phase (length new.history) came placers) effect
