-- No event but a commit changes the journal or the output.
use Rattle.std.proofs.Common.{ℕ, ◌≡◌, List, refl, ap, ◌∙◌}
use Rattle.place_policy.specs.Policy.{Policy}
use Rattle.run_journal.specs.declared.journal.Entry.{Entry}
use Rattle.rv_core.specs.LegValue.{LegValue}
use Rattle.task_request.specs.declared.request.Request.{Request}
use Rattle.task_request.specs.declared.request.Request.TheVariants.{Continue, Load, Store, Enqueue, MakeSub, Emit, End}
use Rattle.task_request.specs.declared.request.Request.TheVariants.{Trap}
use Rattle.event_def.specs.spec_state.declared.task.Task.{Task}
use Rattle.event_def.specs.spec_state.View.{View}
use Rattle.event_def.specs.spec_state.Aborts.{Aborts}
use Rattle.event_def.specs.spec_state.Changes.{request_of}
use Rattle.event_def.specs.spec_state.Numbers as numbers
use Rattle.event_def.specs.spec_state.Room.{Asker, MakesRoom}
use Rattle.event_def.specs.spec_state.Room as room
use Rattle.event_def.specs.declared.event.Event.{Event}
use Rattle.event_def.specs.declared.event.Event.TheVariants as event
use Rattle.event_def.specs.Advancing.{IsNoCommit}
use Rattle.event_def.specs.Book.{BookView}
use Rattle.event_def.specs.Events.{ComesTo, FreesCommit, FreesCore, Makes}
use Rattle.event_def.specs.Events as events

-- the committed tasks and what they emitted
abbrev pub committed : View → List Entry × List ℕ
committed view = (view.history, view.output)

-- both are as they were
abbrev pub Stays : View → View → Type 0
Stays old new = committed new ≡ committed old

stays_back : {firsts : ℕ → Type 0} (old : View) (aborted : ℕ) (new : View) → Aborts firsts old aborted new
    → Stays old new
stays_back old aborted new aborts = ap committed aborts.frame

stays_room : (tile : ℕ) (asker : Asker) (old : View) {aborted : ℕ} {new : View} → MakesRoom tile asker old aborted new
    → Stays old new
stays_room tile asker old (room.queue_has_room free) = refl
stays_room tile asker old (room.coalesces new full moved) = ap committed moved.frame
stays_room tile asker old (room.aborts_victim aborted v task mid new full none least victim firm aborts moved) =
    ap committed moved.frame ∙ stays_back old aborted mid aborts
stays_room tile asker old (room.aborts_creator aborted v creator task new full none least victim not_firm made aborts) =
    stays_back old aborted new aborts

stays_core : (tile : ℕ) (old : View) {aborted : ℕ} {new : View} → FreesCore tile old aborted new → Stays old new
stays_core tile old (events.has_free core free) = refl
stays_core tile old (events.aborts_latest aborted v task new held latest aborts) = stays_back old aborted new aborts

stays_commit : (tile : ℕ) (task : Task) (old : View) {aborted : ℕ} {new : View} → FreesCommit tile task old aborted new
    → Stays old new
stays_commit tile task old (events.has_free free) = refl
stays_commit tile task old (events.aborts_latest aborted v x new full latest later aborts) =
    stays_back old aborted new aborts

stays_number : (old : View) {new : View} → numbers.FreesNumber old new → Stays old new
stays_number old (numbers.has_free free) = refl
stays_number old (numbers.renumbers new spent renumbered) = ap committed renumbered.frame

module _ (book : BookView) (aborted : ℕ) (new : View) (placers : List Policy) where
  stays_request : (tile core : ℕ) (leg : LegValue) (id : ℕ) (task : Task) (request : Request)
      → ComesTo tile core leg id task request book aborted new placers → Stays book.view new
  stays_request tile core leg id task Continue made = ap committed made.0.frame
  stays_request tile core leg id task (Load width rd offset) made =
      ap committed made.0.change.frame ∙ ap committed made.0.forced.frame
  stays_request tile core leg id task (Store offset bytes value) made =
      ap committed made.0.change.frame ∙ ap committed made.0.forced.frame
  stays_request tile core leg id task (Enqueue spawn) made =
      ap committed made.change.frame ∙ stays_room _ _ book.view made.forced
  stays_request tile core leg id task (MakeSub kind) made = ap committed made.0.frame
  stays_request tile core leg id task (Emit byte) made = ap committed made.0.frame
  stays_request tile core leg id task End made =
      ap committed made.0.change.frame ∙ stays_commit tile task book.view made.0.forced
  stays_request tile core leg id task (Trap cause) made = ap committed made.0.frame

  -- whatever event but a commit was made
  pub event_stays : (N : Type 0) (e : Event N) → IsNoCommit e → Makes book e aborted new placers → Stays book.view new
  event_stays N (event.Dispatch tile) other made =
      ap committed made.0.change.frame ∙ stays_number made.0.mid made.0.number ∙ stays_core tile book.view made.0.forced
  event_stays N (event.Step tile core leg) other made =
      stays_request tile core leg made.id made.task (request_of book.view made.task leg) made.comes
  event_stays N (event.Abort tile) other made = stays_back book.view aborted new made.0.aborts
  event_stays N event.Commit other made = absurd other
  event_stays N (event.Coalesce tile) other made = ap committed made.0.frame
  event_stays N (event.Split tile) other made =
      ap committed made.0.change.frame ∙ stays_room _ _ book.view made.0.forced
