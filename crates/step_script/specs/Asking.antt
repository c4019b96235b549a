-- What an act requests of the book: an event, or a reply without one; and the outcome of that.
use Rattle.std.specs.Prelude.{◌≡◌, ◌≢◌, ◌<◌, ℕ, List, Some, None}
use Rattle.guest_image.specs.ImageValue.{ImageValue}
use Rattle.rv_core.specs.LegValue.{LegValue}
use Rattle.conflict_book.specs.spec_state.declared.settings.Settings.{Settings}
use Rattle.conflict_book.specs.spec_state.Effects.{EffectValue}
use Rattle.conflict_book.specs.event_def.declared.event.Event.{Event}
use Rattle.conflict_book.specs.event_def.declared.event.Event.TheVariants as event
use Rattle.conflict_book.specs.event_def.declared.event.Reply.{Reply}
use Rattle.conflict_book.specs.event_def.declared.event.Reply.TheVariants as replies
use Rattle.conflict_book.specs.event_def.Advancing.{IsNextEvent}
use Rattle.conflict_book.specs.event_def.Book.{BookView}
use Rattle.conflict_book.specs.event_def.End.{IsOver}
use Rattle.conflict_book.specs.event_def.Happens.{Happens}
use Rattle.conflict_book.specs.event_def.Telling.{HappensTelling}
use Rattle.conflict_book.specs.Legless.{event_of}
use Rattle.conflict_book.specs.Ranges.{IsInRange}
use Rattle.step_script.specs.declared.act.Act.{Act}
use Rattle.step_script.specs.declared.act.Act.TheVariants as acts
use Rattle.step_script.specs.Playing.{HasLegAt, HeldLeg, NoneRuns, PlayState, PlayerValue, held_for, holding}
use Rattle.step_script.specs.Playing.{without_held_leg}
use Rattle.step_script.specs.declared.asked.Asked.{Asked}
use Rattle.step_script.specs.declared.asked.Asked.TheVariants as asked

-- an event is made, or this is the reply and nothing happens
pub data Attempt (N : Type 0) : Type 0 where
  Hands : Event N → Attempt N
  Says : Reply → Attempt N

-- what the code's value for it means, where this is the leg that is ready
abbrev pub asks_of : {N : Type 0} → Asked → LegValue → Attempt N
asks_of (asked.Legless event) leg = Hands (event_of event)
asks_of (asked.Ready tile core) leg = Hands (event.Step tile core leg)
asks_of (asked.Says reply) leg = Says reply

-- the tile and the core that it names are there
abbrev pub AskedIsInRange : Type 0 → Settings → Asked → Type 0
AskedIsInRange N settings (asked.Legless event) = IsInRange {N = N} settings (event_of event)
AskedIsInRange N settings (asked.Ready tile core) = (tile < settings.tiles) × (core < settings.cores)
AskedIsInRange N settings (asked.Says reply) = Unit {0}

-- this event is made, and the held legs stay
pub record HandsEvent {N : Type 0} (event : Event N) (old : PlayState) (asks : Attempt N) (held : List HeldLeg)
    : Type 0 where
  pub asks_is : asks ≡ Hands event
  pub held_is : held ≡ old.held

-- this is the reply, and the held legs stay
pub record SaysWord {N : Type 0} (reply : Reply) (old : PlayState) (asks : Attempt N) (held : List HeldLeg)
    : Type 0 where
  pub asks_is : asks ≡ Says reply
  pub held_is : held ≡ old.held

-- `step`: the leg of the running task there; at the end of a run, and if none runs there, that is the reply
pub data AsksStep {N : Type 0} (image : ImageValue) (tile core : ℕ) (old : PlayState) (asks : Attempt N)
    (held : List HeldLeg) : Type 0 where
  step_runs : (leg : LegValue) → (IsOver old.book.view → ⊥) → HasLegAt image old.book.view tile core leg
      → HandsEvent (event.Step tile core leg) old asks held → AsksStep image tile core old asks held
  step_ended : IsOver old.book.view → SaysWord replies.Ended old asks held → AsksStep image tile core old asks held
  step_stale : (IsOver old.book.view → ⊥) → NoneRuns old.book.view tile core → SaysWord replies.Stale old asks held
      → AsksStep image tile core old asks held

-- `take`: the leg of the running task there is held; where none runs there nothing is held for that core
pub data AsksTake {N : Type 0} (image : ImageValue) (tile core : ℕ) (old : PlayState) (asks : Attempt N)
    (held : List HeldLeg) : Type 0 where
  take_holds : (leg : LegValue) → HasLegAt image old.book.view tile core leg → asks ≡ Says replies.Ok
      → held ≡ holding tile core leg old.held → AsksTake image tile core old asks held
  take_stale : NoneRuns old.book.view tile core → asks ≡ Says replies.Stale
      → held ≡ without_held_leg tile core old.held → AsksTake image tile core old asks held

-- `give`: the leg that is held for that core, which is no longer held then; at the end of a run it stays held
pub data AsksGive {N : Type 0} (tile core : ℕ) (old : PlayState) (asks : Attempt N) (held : List HeldLeg)
    : Type 0 where
  give_hands : (leg : LegValue) → (IsOver old.book.view → ⊥) → held_for tile core old.held ≡ Some leg
      → asks ≡ Hands (event.Step tile core leg) → held ≡ without_held_leg tile core old.held
      → AsksGive tile core old asks held
  give_ended : IsOver old.book.view → SaysWord replies.Ended old asks held → AsksGive tile core old asks held
  give_stale : (IsOver old.book.view → ⊥) → held_for tile core old.held ≡ None → SaysWord replies.Stale old asks held
      → AsksGive tile core old asks held

-- `advance`: the event for the least task; at the end of a run, that is the reply
pub data AsksAdvance {N : Type 0} (image : ImageValue) (old : PlayState) (asks : Attempt N) (held : List HeldLeg)
    : Type 0 where
  advance_next : (event : Event N) → IsNextEvent image old.book.view event → HandsEvent event old asks held
      → AsksAdvance image old asks held
  advance_ended : IsOver old.book.view → SaysWord replies.Ended old asks held → AsksAdvance image old asks held

-- what an act requests of the book, and which legs are held then
abbrev pub AsksFor : {N : Type 0} → ImageValue → Act → PlayState → Attempt N → List HeldLeg → Type 0
AsksFor image (acts.Dispatch tile) old asks held = HandsEvent (event.Dispatch tile) old asks held
AsksFor image (acts.Step tile core) old asks held = AsksStep image tile core old asks held
AsksFor image (acts.Take tile core) old asks held = AsksTake image tile core old asks held
AsksFor image (acts.Give tile core) old asks held = AsksGive tile core old asks held
AsksFor image (acts.Abort tile) old asks held = HandsEvent (event.Abort tile) old asks held
AsksFor image acts.Commit old asks held = HandsEvent event.Commit old asks held
AsksFor image (acts.Coalesce tile) old asks held = HandsEvent (event.Coalesce tile) old asks held
AsksFor image (acts.Split tile) old asks held = HandsEvent (event.Split tile) old asks held
AsksFor image acts.Advance old asks held = AsksAdvance image old asks held

-- memory runs out for an act: if it is a `take`, nothing is held for its core then; all else stays
abbrev pub RunsOut : Act → PlayerValue → PlayerValue → Type 0
RunsOut (acts.Take tile core) old new = new ≡ record old { held = without_held_leg tile core old.held }
RunsOut other old new = new ≡ old

-- ---- its outcome

-- the event has this reply; or the act has this reply without an event, and nothing happens
abbrev pub AttemptComes : {N : Type 0} → Attempt N → Reply → ℕ → BookView → BookView → Type 0
AttemptComes (Hands event) reply aborted old new = Happens old event reply aborted new
AttemptComes (Says word) reply aborted old new = (reply ≡ word) × (aborted ≡ 0) × (new ≡ old)

-- what the event reports that it did beside its one change; without an event nothing
abbrev pub AttemptTells : {N : Type 0} → Attempt N → Reply → ℕ → BookView → BookView → EffectValue → Type 0
AttemptTells (Hands event) reply aborted old new effect = HappensTelling old event reply aborted new effect
AttemptTells (Says word) reply aborted old new effect = Unit {0}

-- its outcome if memory doesn't run out for the event
abbrev pub ComesOf : {N : Type 0} → Attempt N → Reply → ℕ → BookView → BookView → Type 0
ComesOf (Hands event) reply aborted old new = (reply ≢ replies.Memory) × Happens old event reply aborted new
ComesOf (Says word) reply aborted old new = (reply ≡ word) × (aborted ≡ 0) × (new ≡ old)
