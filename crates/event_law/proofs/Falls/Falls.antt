-- Each event for the least task but its commit brings it nearer to that, or to the end of the run.
use Rattle.std.proofs.Common.{ℕ, ◌+◌, ◌-◌, ◌≡◌, ◌≤◌, ◌<◌, List, Some, None, refl, sym, ap, subst, ◌∙◌, arith, false}
use Rattle.std.proofs.Common.{inl, true, inr}
use Rattle.guest_image.specs.ImageValue.{ImageValue}
use Rattle.place_policy.specs.Policy.{Policy}
use Rattle.rv_core.specs.LegValue.{LegValue}
use Rattle.event_def.specs.spec_state.declared.task.Status.TheVariants.{Idle}
use Rattle.event_def.specs.spec_state.declared.task.Task.{Task}
use Rattle.task_request.specs.declared.request.Request.{Request}
use Rattle.task_request.specs.declared.request.Request.TheVariants.{Continue, Load, Store, Enqueue, MakeSub, Emit, End}
use Rattle.task_request.specs.declared.request.Request.TheVariants.{Trap}
use Rattle.event_def.specs.spec_state.Changes.{request_of}
use Rattle.event_def.specs.spec_state.View.{View}
use Rattle.event_def.specs.spec_state.Least.{IsLeastTask, IsLeastSpilled}
use Rattle.event_def.specs.spec_state.Room.{Splitter, asker_of}
use Rattle.spec_law.specs.Sound.{Sound}
use Rattle.event_def.specs.spec_state.Tasks.{idle_task, spilled_descriptor}
use Rattle.spec_law.proofs.Proved.{split_keeps_least}
use Rattle.event_def.specs.declared.event.Event.{Event}
use Rattle.event_def.specs.declared.event.Event.TheVariants as event
use Rattle.event_def.specs.declared.event.Reply.TheVariants as reply
use Rattle.event_def.specs.Advancing.{HasRest, IsLeastLeg, IsNextEvent, IsNoCommit}
use Rattle.event_def.specs.Book.{BookView}
use Rattle.event_def.specs.End.{IsOver}
use Rattle.event_def.specs.Events.{ComesTo, SplitEvent, DispatchEvent, StepEvent}
use Rattle.event_def.specs.Causes.{IsGranted}
use Rattle.event_def.specs.Happens.{Happens}
use Rattle.event_law.specs.Laws.{AdvancesFall}
use Rattle.event_law.proofs.Falls.Rest.{most_left, at_most, idle_at_least, spilled_at_least}
use Rattle.event_law.proofs.Falls.Steps.{quantum_falls, trap_falls, load_falls, store_falls, sub_falls, byte_falls}
use Rattle.event_law.proofs.Falls.Steps.{end_falls}
use Rattle.event_law.proofs.Falls.Enqueue.{enqueue_falls}
use Rattle.event_law.proofs.Falls.Spilled.{room_leaves_spilled}
use Rattle.event_law.proofs.Keeps.Events.{spilled_no_heir, spilled_asks}
use Rattle.event_law.proofs.Keeps.Room.{room_follows}
use Rattle.event_law.proofs.Keeps.Dispatch.{core_follows, number_follows}
use Rattle.event_law.proofs.Falls.Dispatch.{dispatched_is_least}

-- a split of the least spilled task
split_falls : (image : ImageValue) (old : View) (sound : Sound image old) (tile aborted : ℕ) (new : View)
    → (IsOver old → ⊥) → IsLeastSpilled old tile
    → SplitEvent tile old aborted new → (before after : ℕ) → HasRest old before → HasRest new after → after < before
split_falls image old sound tile aborted new goes_on least made before after had has =
    let follows = room_follows image tile Splitter old sound (λ l. ap asker_of (sym (spilled_no_heir old tile sound.heir l sound.is_heir))) (spilled_asks old tile) made.forced in
    let still = room_leaves_spilled image old sound tile least made.forced in
    let back = split_keeps_least image tile made.mid new follows.now still made.change in
    let both : Some back.0 ≡ Some (idle_task made.mid.version (spilled_descriptor made.change.spilled) made.change.creator tile) = sym back.1.queued_at.there ∙ made.change.changes.changed in
    let one : back.0
    ≡ idle_task made.mid.version (spilled_descriptor made.change.spilled) made.change.creator tile = cc in
    let idle : back.0.status ≡ Idle = ap (λ (t : Task). t.status) one in
    let same : new.settings.budget ≡ old.settings.budget = ap (λ view. view.settings.budget) made.change.frame ∙ ap (λ s. s.budget) follows.settings in
    let most : after ≤ new.settings.budget + 3 = subst (λ s. after ≤ most_left new.settings.budget s back.0.core.used) idle (at_most new made.change.id back.0 back.1 after has) in
    let least_before = spilled_at_least old tile least goes_on before had in
    omega (arith, most, same, least_before)

-- a dispatch of the least task
dispatch_falls : (N : Type 0) (image : ImageValue) (book : BookView) (sound : Sound image book.view) (tile aborted : ℕ) (new : View)
    → (IsOver book.view → ⊥)
    → (id : ℕ) (task : Task) → IsLeastTask book.view id task → task.status ≡ Idle → task.tile ≡ tile
    → IsGranted {N = N} book (event.Dispatch tile)
    → DispatchEvent tile book.view aborted new → (before after : ℕ) → HasRest book.view before → HasRest new after
    → after < before
dispatch_falls N image book sound tile aborted new goes_on id task least idle there granted made before after had has =
    let follows = core_follows N image book sound tile granted made.forced in
    let ready = number_follows image book.view made.mid made.ready follows made.number in
    let least_now = dispatched_is_least image book.view made.mid made.ready new sound follows.now ready.0.now ready.1 tile id task least idle there
    made.forced made.number made.change in
    let same : new.settings.budget ≡ book.view.settings.budget = ap (λ view. view.settings.budget) made.change.frame ∙ ap (λ s. s.budget) ready.0.settings in
    let most : after ≤ new.settings.budget - 0 + 2 = at_most new made.change.id _ least_now after has in
    let least_before = idle_at_least book.view id task least goes_on idle before had in
    omega (arith, most, same, least_before)

module _ (image : ImageValue) (book : BookView) (sound : Sound image book.view) (tile core : ℕ) (leg : LegValue) (next : IsLeastLeg image book.view tile core leg) (goes_on : IsOver book.view → ⊥) (before after : ℕ) (had : HasRest book.view before) (aborted : ℕ) (new : View) (placers : List Policy) (has : HasRest new after) where
  -- a step of the least task, by what it asks for
  step_falls : StepEvent tile core leg book aborted new placers → after < before
  step_falls step = by_request (request_of book.view step.task leg) refl step.comes
    where
      by_request : (request : Request) → request_of book.view step.task leg ≡ request
          → ComesTo tile core leg step.id step.task request book aborted new placers → after < before
      by_request Continue asks made =
          quantum_falls image book.view sound tile core leg next goes_on before had new after has step.id step.task step.takes asks made.0
      by_request (Load width rd offset) asks made =
          load_falls image book.view sound tile core leg next goes_on before had new after has step.id step.task step.takes width rd offset asks aborted made.0
      by_request (Store offset bytes value) asks made =
          store_falls image book.view sound tile core leg next goes_on before had new after has step.id step.task step.takes offset bytes value asks aborted made.0
      by_request (Enqueue spawn) asks made =
          enqueue_falls image book sound tile core leg next goes_on before had new after has step.id step.task step.takes spawn asks aborted placers made
      by_request (MakeSub kind) asks made =
          sub_falls image book.view sound tile core leg next goes_on before had new after has step.id step.task step.takes kind asks made.0
      by_request (Emit byte) asks made =
          byte_falls image book.view sound tile core leg next goes_on before had new after has step.id step.task step.takes byte asks made.0
      by_request End asks made =
          end_falls image book.view sound tile core leg next goes_on before had new after has step.id step.task step.takes aborted made.0
      by_request (Trap cause) asks made =
          trap_falls image book.view sound tile core leg next goes_on before had new after has step.id step.task step.takes cause made.0

module _ (N : Type 0) (image : ImageValue) (old new : BookView) (aborted before after : ℕ) (sound : Sound image old.view) (had : HasRest old.view before) (has : HasRest new.view after) where
  -- by the event
  event_falls : (event : Event N) → IsNextEvent image old.view event → IsNoCommit event
      → Happens old event reply.Ok aborted new → after < before
  event_falls (event.Dispatch tile) next no_commit happens =
      let least = next.least in
      dispatch_falls N image old sound tile aborted new.view next.goes_on least.0 least.1 least.2 least.3 least.4 happens.granted happens.makes.0 before after had has
  event_falls (event.Step tile core leg) next no_commit happens =
      step_falls image old sound tile core leg next.least next.goes_on before after had aborted new.view new.placers has happens.makes
  event_falls (event.Abort tile) next no_commit happens = absurd next.least
  event_falls event.Commit next no_commit happens = absurd no_commit
  event_falls (event.Coalesce tile) next no_commit happens = absurd next.least
  event_falls (event.Split tile) next no_commit happens =
      split_falls image old.view sound tile aborted new.view next.goes_on next.least happens.makes.0 before after had has

-- each event for the least task but its commit brings it nearer to that, or to the end of the run
pub advances_fall : (N : Type 0) → AdvancesFall N
advances_fall N image old new event aborted before after sound next no_commit happens had has =
    event_falls N image old new aborted before after sound had has event next no_commit happens
