-- The outcome of a step, whoever observes it.
use Rattle.std.specs.Prelude.{ℕ, List}
use Rattle.place_policy.specs.Policy.{Policy}
use Rattle.trace_tap.specs.TapValue.{TapValue}
use Rattle.rv_core.specs.LegValue.{LegValue}
use Rattle.event_prelude.specs.spec_state.Effects.{EffectValue}
use Rattle.event_prelude.specs.spec_state.View.{View}
use Rattle.spec_access.specs.Asking.{OfTakerIn}
use Rattle.event_prelude.specs.event_def.declared.event.Came.{Came}
use Rattle.event_prelude.specs.event_def.declared.event.Event.TheVariants as event
use Rattle.event_prelude.specs.event_def.Book.{book_of}
use Rattle.event_prelude.specs.event_def.Telling.{ComesTelling}

-- the outcome of a step on this core of this tile, and what it reports, whatever taps a book has and however many
-- events were made
abbrev pub StepComes : (N : Type 0) → ℕ → ℕ → LegValue → View → List Policy → Came → View → List Policy
    → EffectValue → Type 0
StepComes N tile core leg old before came new after effect =
    (taps : List TapValue) (steps : ℕ)
    → ComesTelling {N = N} (book_of old before taps steps) (event.Step tile core leg) came new after effect

-- the outcome of the step of the task of this id in this tile, on the core on which it takes the leg
abbrev pub TaskComes : (N : Type 0) → ℕ → LegValue → ℕ → View → List Policy → Came → View → List Policy
    → EffectValue → Type 0
TaskComes N tile leg id old before came new after effect =
    OfTakerIn old tile leg id (λ core task. StepComes N tile core leg old before came new after effect)

-- the outcome of the step of this task, which changes no placer
abbrev pub QuietlyComes : (N : Type 0) → ℕ → LegValue → ℕ → View → Came → View → EffectValue → Type 0
QuietlyComes N tile leg id old came new effect =
    (placers : List Policy) → TaskComes N tile leg id old placers came new placers effect
