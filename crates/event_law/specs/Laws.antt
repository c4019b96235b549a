-- Laws of events.
use Rattle.std.specs.Prelude.{◌≡◌, ◌≢◌, ◌⊎◌, ◌+◌, ◌*◌, ◌++◌, ◌<◌, ℕ, ◌≤◌, true, List, length, All}
use Rattle.guest_image.specs.ImageValue.{ImageValue, IsImage}
use Rattle.place_policy.specs.Policy.{Policy}
use Rattle.trace_tap.specs.TapValue.{TapValue}
use Rattle.run_journal.specs.declared.end.End.{End}
use Rattle.event_def.specs.serial_machine.Run.{IsEnd, IsRun}
use Rattle.event_def.specs.serial_machine.State.{SerialState}
use Rattle.event_def.specs.spec_state.declared.settings.Settings.{Settings}
use Rattle.event_def.specs.spec_state.Settings.{IsValid}
use Rattle.event_def.specs.spec_state.View.{View}
use Rattle.event_def.specs.spec_state.Aborts.{IsUndone}
use Rattle.event_def.specs.declared.event.Applied.{Applied}
use Rattle.run_journal.specs.declared.closed.Closed.{Closed}
use Rattle.event_def.specs.declared.event.Event.{Event}
use Rattle.event_def.specs.declared.event.Reply.{Reply}
use Rattle.event_def.specs.declared.event.Reply.TheVariants as replies
use Rattle.event_def.specs.Book.{BookView, next_count}
use Rattle.event_def.specs.Closing.{Closes}
use Rattle.event_def.specs.End.{HasEnd, IsOver}
use Rattle.event_def.specs.Events.{IsGiven}
use Rattle.event_def.specs.Happens.{Happens, HappenAll}
use Rattle.event_def.specs.Opening.{IsOpening}
use Rattle.event_def.specs.Advancing.{AdvancesBy, HasRest, IsNextEvent, IsNoCommit}
use Rattle.event_def.specs.Causes.{IsGranted}
use Rattle.spec_law.specs.Sound.{Sound}

-- an event that is not answered Ok changes nothing and aborts no task
abbrev pub RefusalsChangeNothing : Type 0 → Type 0
RefusalsChangeNothing N =
    (old new : BookView) (event : Event N) (reply : Reply) (aborted : ℕ)
    → Happens old event reply aborted new → reply ≢ replies.Ok
    → (aborted ≡ 0) × (new ≡ old)

-- want of memory aside, an event has one reply at most, whatever it leads to
abbrev pub ReplyIsOne : Type 0 → Type 0
ReplyIsOne N =
    (old new other_new : BookView) (event : Event N) (reply other : Reply) (aborted other_aborted : ℕ)
    → Happens old event reply aborted new → Happens old event other other_aborted other_new
    → reply ≢ replies.Memory → other ≢ replies.Memory
    → reply ≡ other

-- a run ends in one way at most
abbrev pub EndIsOne : Type 0
EndIsOne = (view : View) (end other : End) → HasEnd view end → HasEnd view other → end ≡ other

-- what is left up to and with the next commit, or up to the end, is at most the budget and 4
abbrev pub RestIsBounded : Type 0
RestIsBounded = (view : View) (left : ℕ) → HasRest view left → left ≤ view.settings.budget + 4

-- the opening of an image within its limits is sound: its initial data has to be bytes, since of memory it is kept
-- that each number is one
abbrev pub OpeningIsSound : Type 0
OpeningIsSound =
    (image : ImageValue) (settings : Settings) (placers : List Policy) (taps : List TapValue) (book : BookView)
    → IsImage image → IsValid settings → IsOpening image settings placers taps book → Sound image book.view

-- each event keeps a book's view sound, whatever it is answered
abbrev pub EventStaysSound : Type 0 → Type 0
EventStaysSound N =
    (image : ImageValue) (old new : BookView) (event : Event N) (reply : Reply) (aborted : ℕ)
    → IsGiven image old.view.settings event → Sound image old.view → Happens old event reply aborted new
    → Sound image new.view

-- what a book's journal means: it is a run of the serial machine from the image, the output is that run's, and its
-- memory is what an abort of all uncommitted tasks leaves, with nothing else left then
pub record IsSerialRun (image : ImageValue) (budget : ℕ) (view : View) : Type 0 where
  pub serial : SerialState
  pub is_run : IsRun image budget view.history serial
  pub output : view.output ≡ serial.output
  pub undone : IsUndone view (λ id. true) serial.memory
  pub memory : (memory : List ℕ) → IsUndone view (λ id. true) memory → memory ≡ serial.memory

-- from the opening on, whatever events are made and in whatever order, the journal is a run of the serial machine
abbrev pub HistoriesAreRuns : Type 0 → Type 0
HistoriesAreRuns N =
    (image : ImageValue) (settings : Settings) (placers : List Policy) (taps : List TapValue)
    (opened book : BookView) (events : List (Event N)) (answers : List Applied)
    → IsImage image → IsValid settings → IsOpening image settings placers taps opened
    → All (IsGiven image settings) events → HappenAll opened events answers book
    → IsSerialRun image settings.budget book.view

-- what a closed book leaves is a run of the serial machine, whose memory and output these are
abbrev pub CloseIsSerial : Type 0
CloseIsSerial =
    (image : ImageValue) (book : BookView) (closed : Closed) → Sound image book.view → Closes book closed
    → (serial : SerialState) × IsRun image book.view.settings.budget closed.journal serial
    × (closed.memory ≡ serial.memory) × (closed.output ≡ serial.output)

-- a run that is over ends as the serial machine's run does: nothing is pending there, as many turns were taken as
-- may be, or its next task traps so
abbrev pub EndIsSerial : Type 0
EndIsSerial =
    (image : ImageValue) (view : View) (end : End) → IsImage image → (sound : Sound image view) → HasEnd view end
    → IsEnd image view.settings.budget view.settings.commits view.history sound.serial end

-- the event for the least task is never refused
abbrev pub LeastEventIsGranted : Type 0 → Type 0
LeastEventIsGranted N =
    (image : ImageValue) (old : BookView) (event : Event N)
    → Sound image old.view → IsNextEvent image old.view event → IsGranted old event

-- each event for the least task but its commit brings it nearer to that, or to the end of the run
abbrev pub AdvancesFall : Type 0 → Type 0
AdvancesFall N =
    (image : ImageValue) (old new : BookView) (event : Event N) (aborted before after : ℕ)
    → Sound image old.view → IsNextEvent image old.view event → IsNoCommit event
    → Happens old event replies.Ok aborted new
    → HasRest old.view before → HasRest new.view after → after < before

-- a sound view has a rest: its run is over, or its least task is in one of the states that `HasRest` distinguishes
abbrev pub RestIsThere : Type 0
RestIsThere = (image : ImageValue) (view : View) → Sound image view → (left : ℕ) × HasRest view left

-- a view has one rest at most
abbrev pub RestIsOne : Type 0
RestIsOne = (view : View) (left other : ℕ) → HasRest view left → HasRest view other → left ≡ other

-- the run is over and ended so, and in no other way
pub record IsTheEnd (view : View) (end : End) : Type 0 where
  pub has : HasEnd view end
  pub only : (other : End) → HasEnd view other → end ≡ other

-- of each sound view it is decided whether its run is over, and where it is there is exactly one end
abbrev pub EndIsThere : Type 0
EndIsThere = (image : ImageValue) (view : View) → Sound image view
    → ((end : End) × IsTheEnd view end) ⊎ (IsOver view → ⊥)

-- an event leaves the count of events, or raises it by one, up to where it stands still
abbrev pub EventsCountOne : Type 0 → Type 0
EventsCountOne N =
    (old new : BookView) (event : Event N) (reply : Reply) (aborted : ℕ) → Happens old event reply aborted new
    → (new.steps ≡ old.steps) ⊎ (new.steps ≡ next_count old.steps)

-- of lists of events, one after the other, the answers are theirs, one after the other
abbrev pub EventsJoin : Type 0 → Type 0
EventsJoin N =
    (old mid new : BookView) (first second : List (Event N)) (answers others : List Applied)
    → HappenAll old first answers mid → HappenAll mid second others new
    → HappenAll old (first ++ second) (answers ++ others) new

-- the event for the least task may be handed in
abbrev pub NextEventIsGiven : Type 0 → Type 0
NextEventIsGiven N =
    (image : ImageValue) (view : View) (event : Event N) → Sound image view → IsNextEvent image view event
    → IsGiven image view.settings event

-- so many events for the least tasks leave a sound view with a journal longer by the commits among them, and they are
-- not many: with what is left up to the next commit, at most the budget and 4 for each commit and one more
pub record AreFew (image : ImageValue) (old : View) (n : ℕ) (new : View) : Type 0 where
  pub sound : Sound image new
  pub settings : new.settings ≡ old.settings
  pub commits : ℕ
  pub longer : length new.history ≡ length old.history + commits
  pub few : (left : ℕ) → HasRest new left → n + left ≤ (commits + 1) * (old.settings.budget + 4)

abbrev pub LeastEventsAreFew : Type 0 → Type 0
LeastEventsAreFew N =
    (image : ImageValue) (n : ℕ) (old new : BookView) → Sound image old.view → AdvancesBy N image n old new
    → AreFew image old.view n new.view
