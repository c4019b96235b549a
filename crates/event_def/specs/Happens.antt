-- One event and its reply, and a list of them.
use Rattle.std.specs.Prelude.{◌≡◌, ◌⊎◌, ◌∷◌, ℕ, true, false, List, [], map}
use Rattle.trace_tap.specs.declared.record.Record.{Record}
use Rattle.trace_tap.specs.TapValue.{after_note}
use Rattle.event_def.specs.declared.event.Applied.{Applied}
use Rattle.event_def.specs.declared.event.Event.{Event}
use Rattle.event_def.specs.declared.event.Reply.{Reply}
use Rattle.event_def.specs.declared.event.Reply.TheVariants as replies
use Rattle.event_def.specs.Book.{BookView, next_count}
use Rattle.event_def.specs.Causes.{IsRefused, IsGranted, TakesMemory}
use Rattle.event_def.specs.Events.{Makes}
use Rattle.event_def.specs.Trace.{IsRecord}

-- the event is made: no cause to refuse it stands, each tap notes it, and the count of events rises, up to 2^64 - 1
pub record IsMade {N : Type 0} (old : BookView) (event : Event N) (aborted : ℕ) (new : BookView) : Type 0 where
  pub goes_on : old.stopped ≡ false
  pub granted : IsGranted old event
  pub makes : Makes old event aborted new.view new.placers
  pub seen : Record
  pub is_record : IsRecord old.view event aborted new.view seen
  pub noted_it : new.taps ≡ map (after_note seen) old.taps
  pub steps : new.steps ≡ next_count old.steps
  pub stopped : new.stopped ≡ false

-- nothing is changed, and no task is aborted
pub record IsUnchanged (old : BookView) (aborted : ℕ) (new : BookView) : Type 0 where
  pub none : aborted ≡ 0
  pub same : new ≡ old

-- memory runs out: in a stopped book always, and else at most where the event takes memory and nothing else
-- refuses it
abbrev pub MayRunOutOfMemory : {N : Type 0} → BookView → Event N → Type 0
MayRunOutOfMemory book event = (book.stopped ≡ true) ⊎ (IsGranted book event × TakesMemory book event)

-- the event is refused with this reply
pub record Refuses {N : Type 0} (old : BookView) (event : Event N) (reply : Reply) (aborted : ℕ)
    (new : BookView) : Type 0 where
  pub goes_on : old.stopped ≡ false
  pub refused : IsRefused old event reply
  pub unchanged : IsUnchanged old aborted new

-- from a book the event has this reply, aborts `aborted` tasks, and leaves this book
abbrev pub Happens : {N : Type 0} → BookView → Event N → Reply → ℕ → BookView → Type 0
Happens old event replies.Ok aborted new = IsMade old event aborted new
Happens old event replies.Memory aborted new = MayRunOutOfMemory old event × IsUnchanged old aborted new
Happens old event reply aborted new = Refuses old event reply aborted new

-- these events, one after another, have these answers
abbrev pub HappenAll : {N : Type 0} → BookView → List (Event N) → List Applied → BookView → Type 0
HappenAll old [] [] new = old ≡ new
HappenAll old (event ∷ events) (applied ∷ answers) new =
    (mid : BookView) × Happens old event applied.reply applied.aborted mid × HappenAll mid events answers new
HappenAll old [] (applied ∷ answers) new = ⊥
HappenAll old (event ∷ events) [] new = ⊥
