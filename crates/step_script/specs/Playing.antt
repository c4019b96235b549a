-- What playing a script does to a book, and the reply to each act.
use Rattle.std.specs.Prelude.{◌≡◌, ◌≢◌, ℕ, List, [], ◌∷◌, ◌++◌, ◌==◌, ◌&&◌, not, Bool, filter, take, Some, None}
use Rattle.std.specs.Prelude.{if◌then◌else◌}
use Rattle.std.specs.declared.option.Option.{Option}
use Rattle.guest_image.specs.ImageValue.{ImageValue}
use Rattle.rv_core.specs.LegValue.{LegValue}
use Rattle.conflict_book.specs.spec_state.declared.task.Task.{Task}
use Rattle.conflict_book.specs.spec_state.Queries.{IsRunning}
use Rattle.conflict_book.specs.spec_state.View.{View}
use Rattle.conflict_book.specs.event_def.declared.event.Advance.{Advance}
use Rattle.conflict_book.specs.event_def.declared.event.Advance.TheVariants as answers
use Rattle.conflict_book.specs.event_def.declared.event.Event.{Event}
use Rattle.conflict_book.specs.event_def.declared.event.Event.TheVariants as event
use Rattle.conflict_book.specs.event_def.declared.event.Reply.{Reply}
use Rattle.conflict_book.specs.event_def.declared.event.Reply.TheVariants as replies
use Rattle.conflict_book.specs.event_def.Advancing.{AdvanceAnswers, IsLegFrom}
use Rattle.conflict_book.specs.event_def.Book.{BookView}
use Rattle.conflict_book.specs.event_def.End.{IsOver}
use Rattle.conflict_book.specs.event_def.Happens.{Happens}
use Rattle.step_script.specs.declared.act.Act.{Act}
use Rattle.step_script.specs.declared.act.Act.TheVariants as acts
use Rattle.step_script.specs.declared.saying.Said.{Said}
use Rattle.step_script.specs.declared.saying.Word.TheVariants as words

-- ---- legs that are held

-- a leg that is held for a core of a tile, at most one for each, while one script is played
pub record HeldLeg : Type 0 where
  pub tile : ℕ
  pub core : ℕ
  pub leg : LegValue

abbrev pub is_held_for : ℕ → ℕ → HeldLeg → Bool
is_held_for tile core held = held.tile == tile && held.core == core

-- the leg that is held for that core
abbrev pub held_for : ℕ → ℕ → List HeldLeg → Option LegValue
held_for tile core [] = None
held_for tile core (h ∷ held) = if is_held_for tile core h then Some h.leg else held_for tile core held

-- nothing is held for that core, and for each other core what was
abbrev pub without_held_leg : ℕ → ℕ → List HeldLeg → List HeldLeg
without_held_leg tile core held = filter (λ h. not (is_held_for tile core h)) held

-- this leg is held for that core, in place of an older one
abbrev pub holding : ℕ → ℕ → LegValue → List HeldLeg → List HeldLeg
holding tile core leg held = without_held_leg tile core held ++ record { tile = tile; core = core; leg = leg } ∷ []

-- the state between acts: the legs that are held, and the leg that is ready
pub record PlayerValue : Type 0 where
  pub held : List HeldLeg
  pub leg : LegValue

-- a book that is played, and the legs that are held
pub record PlayState : Type 0 where
  pub book : BookView
  pub held : List HeldLeg

-- ---- replies

-- this reply, with no task aborted
abbrev pub plainly : Reply → Said
plainly reply = record { word = words.Plain reply; aborted = 0 }

-- the event is made, and this is its reply, which isn't that memory ran out
pub record HandsIn {N : Type 0} (event : Event N) (old : BookView) (said : Said) (new : BookView) : Type 0 where
  pub reply : Reply
  pub word : said.word ≡ words.Plain reply
  pub there : reply ≢ replies.Memory
  pub happens : Happens old event reply said.aborted new

-- the event is made, and the held legs stay
pub record MakesInPlay {N : Type 0} (event : Event N) (old : PlayState) (said : Said) (new : PlayState) : Type 0 where
  pub hands_in : HandsIn event old.book said new.book
  pub held : new.held ≡ old.held

-- nothing happens, and this is the reply
pub record Stays (reply : Reply) (old : PlayState) (said : Said) (new : PlayState) : Type 0 where
  pub word : said ≡ plainly reply
  pub same : new ≡ old

-- a task runs on that core, and this is its leg from the core that it has, with the quantum of the settings
pub record HasLegAt (image : ImageValue) (view : View) (tile core : ℕ) (leg : LegValue) : Type 0 where
  pub id : ℕ
  pub task : Task
  pub runs : IsRunning view tile core id task
  pub leg_from : IsLegFrom image view task leg

-- no task runs on that core
abbrev pub NoneRuns : View → ℕ → ℕ → Type 0
NoneRuns view tile core = (id : ℕ) (task : Task) → IsRunning view tile core id task → ⊥

-- ---- acts

-- `step`: the event of the leg of the running task there; at the end of a run, and if none runs there, that is the
-- reply
pub data Steps (N : Type 0) (image : ImageValue) (tile core : ℕ) (old : PlayState) (said : Said)
    (new : PlayState) : Type 0 where
  step_runs : (leg : LegValue) → (IsOver old.book.view → ⊥) → HasLegAt image old.book.view tile core leg
      → MakesInPlay {N = N} (event.Step tile core leg) old said new → Steps N image tile core old said new
  step_ended : IsOver old.book.view → Stays replies.Ended old said new → Steps N image tile core old said new
  step_stale : (IsOver old.book.view → ⊥) → NoneRuns old.book.view tile core → Stays replies.Stale old said new
      → Steps N image tile core old said new

-- `take`: the leg of the running task there is held; if none runs there nothing is held for that core. It isn't an
-- event, and an end does not refuse it
pub data Takes (image : ImageValue) (tile core : ℕ) (old : PlayState) (said : Said) (new : PlayState) : Type 0 where
  take_holds : (leg : LegValue) → HasLegAt image old.book.view tile core leg → said ≡ plainly replies.Ok
      → new ≡ record old { held = holding tile core leg old.held } → Takes image tile core old said new
  take_stale : NoneRuns old.book.view tile core → said ≡ plainly replies.Stale
      → new ≡ record old { held = without_held_leg tile core old.held } → Takes image tile core old said new

-- `give`: the event of the leg that is held for that core is made, and the leg is no longer held, whatever the reply;
-- at the end of a run it stays held
pub data Gives (N : Type 0) (tile core : ℕ) (old : PlayState) (said : Said) (new : PlayState) : Type 0 where
  give_hands : (leg : LegValue) → (IsOver old.book.view → ⊥) → held_for tile core old.held ≡ Some leg
      → HandsIn {N = N} (event.Step tile core leg) old.book said new.book
      → new.held ≡ without_held_leg tile core old.held
      → Gives N tile core old said new
  give_ended : IsOver old.book.view → Stays replies.Ended old said new → Gives N tile core old said new
  give_stale : (IsOver old.book.view → ⊥) → held_for tile core old.held ≡ None → Stays replies.Stale old said new
      → Gives N tile core old said new

-- the reply to an advance; nothing if memory ran out
abbrev pub said_of : Advance → Option Said
said_of (answers.Moved aborted) = Some (record { word = words.Moved; aborted = aborted })
said_of answers.Committed = Some (record { word = words.Committed; aborted = 0 })
said_of (answers.Ended end) = Some (plainly replies.Ended)
said_of answers.Memory = None

-- `advance`: the event for the least task
pub record DoesAdvance (N : Type 0) (image : ImageValue) (old : PlayState) (said : Said)
    (new : PlayState) : Type 0 where
  pub answer : Advance
  pub says : said_of answer ≡ Some said
  pub answers : AdvanceAnswers N image old.book answer new.book
  pub held : new.held ≡ old.held

-- the act is played, this is the reply to it, and it leaves this
abbrev pub Does : Type 0 → ImageValue → Act → PlayState → Said → PlayState → Type 0
Does N image (acts.Dispatch tile) old said new = MakesInPlay {N = N} (event.Dispatch tile) old said new
Does N image (acts.Step tile core) old said new = Steps N image tile core old said new
Does N image (acts.Take tile core) old said new = Takes image tile core old said new
Does N image (acts.Give tile core) old said new = Gives N tile core old said new
Does N image (acts.Abort tile) old said new = MakesInPlay {N = N} (event.Abort tile) old said new
Does N image acts.Commit old said new = MakesInPlay {N = N} event.Commit old said new
Does N image (acts.Coalesce tile) old said new = MakesInPlay {N = N} (event.Coalesce tile) old said new
Does N image (acts.Split tile) old said new = MakesInPlay {N = N} (event.Split tile) old said new
Does N image acts.Advance old said new = DoesAdvance N image old said new

-- these acts, one after another, with these replies
abbrev pub DoesAll : Type 0 → ImageValue → List Act → PlayState → List Said → PlayState → Type 0
DoesAll N image [] old [] new = old ≡ new
DoesAll N image (act ∷ acts) old (said ∷ saids) new =
    (mid : PlayState) × Does N image act old said mid × DoesAll N image acts mid saids new
DoesAll N image [] old (said ∷ saids) new = ⊥
DoesAll N image (act ∷ acts) old [] new = ⊥

-- the script is played from a book on, with no leg held: these are the replies to its acts, and it leaves this book
abbrev pub Plays : Type 0 → ImageValue → List Act → BookView → List Said → BookView → Type 0
Plays N image script old said new =
    (held : List HeldLeg)
    × DoesAll N image script (record { book = old; held = [] }) said (record { book = new; held = held })

-- the first acts of the script, as many as there are replies, were played and left this book
pub record PlaysSome (N : Type 0) (image : ImageValue) (script : List Act) (old new : BookView) : Type 0 where
  pub count : ℕ
  pub said : List Said
  pub plays : Plays N image (take count script) old said new
