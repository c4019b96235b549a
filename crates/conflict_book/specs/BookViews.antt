-- What contracts see of a book.
use Rattle.std.specs.Prelude.{ℕ, false, List, map}
use Rattle.place_policy.specs.Policy.{Policy}
use Rattle.trace_tap.specs.declared.record.Record.{Record}
use Rattle.trace_tap.specs.TapValue.{TapValue, after_note}
use Rattle.event_step.specs.spec_state.Effects.{EffectValue}
use Rattle.event_step.specs.spec_state.View.{View}
use Rattle.event_step.specs.event_def.Book.{BookView, CountedView, next_count}
use Rattle.conflict_book.specs.declared.book.Book.{Book}

-- what is seen of a book, by what its placers and its taps mean
abbrev pub view_of : {N P T : Type 0} → (P → Policy) → (T → TapValue) → Book N P T → BookView
view_of policy meaning book = record {
  view = book.sound.view;
  placers = map policy book.placers.items;
  taps = map meaning book.taps.items;
  steps = book.sound.steps;
  stopped = book.stopped;
}

-- what is seen of a book's machine, whatever its placers and its taps mean
abbrev pub machine_view : {N P T : Type 0} → Book N P T → View
machine_view book = book.sound.view

-- what the last event of a book did beside its one change
abbrev pub effect_of : {N P T : Type 0} → Book N P T → EffectValue
effect_of book = book.sound.effect

-- how many events a book has counted
abbrev pub events_made : {N P T : Type 0} → Book N P T → ℕ
events_made book = book.sound.steps

-- a book of this state, these placers and these taps that wasn't stopped
abbrev pub going_book : CountedView → List Policy → List TapValue → BookView
going_book sound placers taps =
    record { view = sound.view; placers = placers; taps = taps; steps = sound.steps; stopped = false }

-- the book once one more event was made, which its taps note
abbrev pub after_event : Record → BookView → BookView
after_event seen book = record book { taps = map (after_note seen) book.taps; steps = next_count book.steps }
