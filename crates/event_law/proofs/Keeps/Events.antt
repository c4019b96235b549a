-- Whatever happens keeps a book's view sound.
use Rattle.std.proofs.Common.{ℕ, ◌≡◌, ◌≢◌, ◌<◌, inl, inr, List, Option, Some, None, refl, sym, ap, subst, ◌∙◌}
use Rattle.fractal_vt.specs.declared.key.Key.{Key}
use Rattle.guest_image.specs.ImageValue.{ImageValue}
use Rattle.place_policy.specs.Policy.{Policy}
use Rattle.rv_core.specs.LegValue.{LegValue, IsLegOfImage}
use Rattle.task_request.specs.declared.request.Request.{Request}
use Rattle.task_request.specs.declared.request.Request.TheVariants.{Continue, Load, Store, Enqueue, MakeSub, Emit, End}
use Rattle.task_request.specs.declared.request.Request.TheVariants.{Trap}
use Rattle.event_def.specs.spec_state.Changes.{request_of}
use Rattle.event_def.specs.spec_state.View.{View}
use Rattle.event_def.specs.spec_state.Least.{Queued, Spilled_at, IsHeir, IsLeastSpilled}
use Rattle.event_def.specs.spec_state.Room.{Splitter, asker_of}
use Rattle.spec_law.specs.RoomLaws.{AsksAsLeast}
use Rattle.spec_law.specs.Sound.{Sound}
use Rattle.spec_law.proofs.Proved.{least_is_one, split_stays_sound}
use Rattle.event_def.specs.declared.event.Event.{Event}
use Rattle.event_def.specs.declared.event.Event.TheVariants as event
use Rattle.event_def.specs.declared.event.Reply.{Reply}
use Rattle.event_def.specs.declared.event.Reply.TheVariants as replies
use Rattle.event_def.specs.Book.{BookView}
use Rattle.event_def.specs.Causes.{IsGranted}
use Rattle.event_def.specs.Events.{ComesTo, StepEvent, SplitEvent, Makes, IsGiven}
use Rattle.event_def.specs.Happens.{Happens}
use Rattle.event_law.specs.Laws.{EventStaysSound}
use Rattle.event_law.proofs.Replies.{unchanged}
use Rattle.event_law.proofs.Keeps.Forced.{Follows, follows_itself}
use Rattle.event_law.proofs.Keeps.Dispatch.{dispatch_leads, abort_leads, commit_leads}
use Rattle.event_law.proofs.Keeps.Room.{coalesce_follows, room_follows, room_is_free}
use Rattle.event_law.proofs.Keeps.Steps.{quantum_leads, trap_leads, sub_leads, byte_leads, load_leads, store_leads}
use Rattle.event_law.proofs.Keeps.Calls.{enqueue_leads, end_leads}

-- where the least task is spilled, there is no heir
pub spilled_no_heir : (view : View) (tile : ℕ) (heir : Option ℕ) → IsLeastSpilled view tile → IsHeir view heir
    → heir ≡ None
spilled_no_heir view tile None least is = refl
spilled_no_heir view tile (Some id) least is =
    let same : Queued is.0.tile is.1.place ≡ Spilled_at tile least.place = least_is_one view (Queued is.0.tile is.1.place) (Spilled_at tile least.place) is.1.least least.least in
    absurd (cc (same))

-- the least spilled task asks as the least one
pub spilled_asks : (view : View) (tile : ℕ) → IsLeastSpilled view tile
    → (low : Key) × AsksAsLeast view tile Splitter low
spilled_asks view tile least = (least.least.key, (least, refl))

-- a split
split_leads : (image : ImageValue) (old : View) → Sound image old → (tile aborted : ℕ) (new : View)
    → tile < old.settings.tiles
    → SplitEvent tile old aborted new → Follows image old new
split_leads image old sound tile aborted new inside made =
    let heirless : IsLeastSpilled old tile → Splitter ≡ asker_of sound.heir = λ least. ap asker_of (sym (spilled_no_heir old tile sound.heir least sound.is_heir)) in
    let follows = room_follows image tile Splitter old sound heirless (spilled_asks old tile) made.forced in
    let free = room_is_free image tile Splitter old sound heirless (spilled_asks old tile) made.forced in
    record {
      now =
          (split_stays_sound image made.mid new follows.now tile (subst (λ s. tile < s.tiles) (sym follows.settings) inside) free made.change).0;
      settings = ap (λ view. view.settings) made.change.frame ∙ follows.settings;
    }

module _ (image : ImageValue) (book : BookView) (sound : Sound image book.view) (aborted : ℕ) (new : View) (placers : List Policy) where
  -- a step, by what its task asks for
  step_leads : (tile core : ℕ) (leg : LegValue) → IsLegOfImage image book.view.settings.budget leg
      → StepEvent tile core leg book aborted new placers → Follows image book.view new
  step_leads tile core leg run step = by_request (request_of book.view step.task leg) refl step.comes
    where
      by_request : (request : Request) → request_of book.view step.task leg ≡ request
          → ComesTo tile core leg step.id step.task request book aborted new placers → Follows image book.view new
      by_request Continue asks made =
          quantum_leads image book.view sound tile core leg run step.id step.task step.takes new made.0
      by_request (Load width rd offset) asks made =
          load_leads image book.view sound tile core leg run step.id step.task step.takes width rd offset asks aborted new made.0
      by_request (Store offset bytes value) asks made =
          store_leads image book.view sound tile core leg run step.id step.task step.takes offset bytes value asks aborted new made.0
      by_request (Enqueue spawn) asks made =
          enqueue_leads image book sound tile core leg run step.id step.task step.takes spawn asks aborted new placers made
      by_request (MakeSub kind) asks made =
          sub_leads image book.view sound tile core leg run step.id step.task step.takes kind asks new made.0
      by_request (Emit byte) asks made =
          byte_leads image book.view sound tile core leg run step.id step.task step.takes byte asks new made.0
      by_request End asks made =
          end_leads image book sound tile core leg run step.id step.task step.takes asks aborted new made.0
      by_request (Trap cause) asks made =
          trap_leads image book.view sound tile core leg run step.id step.task step.takes cause asks new made.0

  -- an event that is granted and made leaves a sound view
  pub makes_leads : (N : Type 0) (event : Event N) → IsGiven image book.view.settings event → IsGranted book event
      → Makes book event aborted new placers → Follows image book.view new
  makes_leads N (event.Dispatch tile) given granted made =
      dispatch_leads N image book sound tile aborted new granted made.0
  makes_leads N (event.Step tile core leg) given granted made = step_leads tile core leg given.2 made
  makes_leads N (event.Abort tile) given granted made = abort_leads N image book sound tile aborted new granted made.0
  makes_leads N event.Commit given granted made = commit_leads N image book sound new granted made.0
  makes_leads N (event.Coalesce tile) given granted made = coalesce_follows image tile book.view new sound made.0
  makes_leads N (event.Split tile) given granted made = split_leads image book.view sound tile aborted new given made.0

module _ (N : Type 0) (image : ImageValue) (old new : BookView) (event : Event N) (aborted : ℕ) (given : IsGiven image old.view.settings event) (sound : Sound image old.view) where
  -- one that is refused, whatever the reply
  refused_keeps : (reply : Reply) → Happens old event reply aborted new → reply ≢ replies.Ok
      → Follows image old.view new.view
  refused_keeps reply happens refused =
      let same : old ≡ new = sym (unchanged old new event aborted reply happens refused).1 in
      subst (λ (book : BookView). Follows image old.view book.view) same (follows_itself image old.view sound)

  -- an event, whatever it is answered
  pub happens_keeps : (reply : Reply) → Happens old event reply aborted new → Follows image old.view new.view
  happens_keeps replies.Ok happens =
      makes_leads image old sound aborted new.view new.placers N event given happens.granted happens.makes
  happens_keeps replies.Empty happens = refused_keeps replies.Empty happens (λ e. absurd (cc (e)))
  happens_keeps replies.Busy happens = refused_keeps replies.Busy happens (λ e. absurd (cc (e)))
  happens_keeps replies.Stall happens = refused_keeps replies.Stall happens (λ e. absurd (cc (e)))
  happens_keeps replies.Stale happens = refused_keeps replies.Stale happens (λ e. absurd (cc (e)))
  happens_keeps replies.Firm happens = refused_keeps replies.Firm happens (λ e. absurd (cc (e)))
  happens_keeps replies.Ended happens = refused_keeps replies.Ended happens (λ e. absurd (cc (e)))
  happens_keeps replies.Memory happens = refused_keeps replies.Memory happens (λ e. absurd (cc (e)))

-- whatever happens keeps a book's view sound
pub event_stays_sound : (N : Type 0) → EventStaysSound N
event_stays_sound N image old new event reply aborted given sound happens =
    (happens_keeps N image old new event aborted given sound reply happens).now
