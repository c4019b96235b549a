-- What comes of an enqueue, and what it tells.
use Rattle.std.proofs.Common.{ℕ, ◌≡◌, ◌<◌, inl, List, Option, None, refl, sym, ap, subst, ◌∙◌}
use Rattle.guest_image.specs.ImageValue.{ImageValue}
use Rattle.place_policy.specs.Policy.{Policy}
use Rattle.place_policy.specs.Serving.{first_placed}
use Rattle.trace_tap.specs.declared.record.Deed.TheVariants.{Call}
use Rattle.trace_tap.specs.declared.record.Record.{Record}
use Rattle.trace_tap.specs.TapValue.{TapValue}
use Rattle.rv_core.specs.LegValue.{LegValue}
use Rattle.task_desc.specs.declared.desc.Spawn.{Spawn}
use Rattle.task_request.specs.declared.request.Request.TheVariants.{Enqueue}
use Rattle.event_prelude.specs.spec_state.declared.settings.Settings.{Settings}
use Rattle.event_prelude.specs.spec_state.declared.task.Task.{Task}
use Rattle.event_prelude.specs.spec_state.declared.task.TaskId.{TaskId}
use Rattle.event_prelude.specs.spec_state.Effects.{EffectValue, nothing}
use Rattle.event_prelude.specs.spec_state.View.{View}
use Rattle.event_prelude.specs.spec_state.Changes.{TakesLeg, request_of}
use Rattle.event_prelude.specs.spec_state.Room as room
use Rattle.event_prelude.specs.spec_state.Room.{Asker, Enqueuer, QueueHasRoom, MakesRoom, Stalls}
use Rattle.spec_access.specs.Asking.{Asks}
use Rattle.spec_access.specs.Telling.{EnqueuesTold}
use Rattle.event_prelude.specs.spec_law.Sound.{Sound}
use Rattle.event_prelude.specs.event_def.declared.event.Came.TheVariants.{Made, Refused}
use Rattle.event_prelude.specs.event_def.declared.event.Event.TheVariants as event
use Rattle.event_prelude.specs.event_def.declared.event.Reply.TheVariants as reply
use Rattle.event_prelude.specs.event_def.Book.{picked_tile, book_of}
use Rattle.event_prelude.specs.event_def.Causes.{IsGranted}
use Rattle.event_prelude.specs.event_def.End.{IsOver}
use Rattle.event_prelude.specs.event_def.Events.{EnqueueEvent}
use Rattle.event_prelude.specs.event_def.Telling.{ComesTelling, TellsRoom}
use Rattle.event_prelude.specs.event_def.Trace.{record_of}
use Rattle.event_prelude.specs.event_basis.Forcing.{TakesStill, LeavesRoom}
use Rattle.event_prelude.proofs.Below.event_basis.Proved.{child_no_stall, no_end_no_stall, room_leaves}
use Rattle.event_prelude.proofs.Below.event_basis.Proved.{room_leaves_asker}
use Rattle.event_prelude.proofs.Below.event_basis.Proved.{stall_is_refused, taker_asks}
use Rattle.event_step.specs.Placing.{PlacesTelling}
use Rattle.event_step.proofs.Stepping.{asks_same, granted, made_granted, wants_memory}

module _ (image : ImageValue) (old : View) (tile core id to : ℕ) (leg : LegValue) (task : Task) (aborted : ℕ)
    (mid : View)
    (sound : Sound image old) (takes : TakesLeg old tile core leg id task) (makes : MakesRoom to (Enqueuer id)
    old aborted mid) where
  -- the task that enqueues stays
  pub stays_asking : TakesStill image tile core leg id task old mid
  stays_asking = room_leaves_asker image tile core id to leg task old aborted mid sound takes makes

  -- and the tile has a free place
  leaves : LeavesRoom image to old mid
  leaves = room_leaves image to (Enqueuer id) old aborted mid sound (taker_asks old tile core id leg task
      takes) makes

  pub free_place : QueueHasRoom mid to
  free_place = leaves.free

  pub still_inside : to < old.settings.tiles → to < mid.settings.tiles
  still_inside inside = subst (λ (s : Settings). to < s.tiles) (sym leaves.like.settings) inside

-- what is done for room is told of, whichever task comes
room_told : (tile : ℕ) (asker : Asker) (old : View) {aborted : ℕ} {mid : View}
    (makes : MakesRoom tile asker old aborted mid) (effect : EffectValue) (arrived : Option TaskId)
    → TellsRoom tile asker old aborted mid makes effect
    → TellsRoom tile asker old aborted mid makes (record effect { arrived = arrived })
room_told tile asker old (room.queue_has_room has) effect arrived told = told
room_told tile asker old (room.coalesces new full spills) effect arrived told = told
room_told tile asker old (room.aborts_victim taken v x between new full none least victim firm aborts spills) effect
    arrived told = told
room_told tile asker old (room.aborts_creator taken v c x new full none least victim loose made_by aborts) effect
    arrived told = told

-- a child that is enqueued behind it is told too
pub places_telling : (tile id : ℕ) (task : Task) (leg : LegValue) (spawn : Spawn) (old mid new : View) (aborted : ℕ)
    (effect last : EffectValue) (makes : (makes : MakesRoom tile (Enqueuer id) old aborted mid)
    × TellsRoom tile (Enqueuer id) old aborted mid makes effect)
    → last ≡ record effect { arrived = last.arrived } → EnqueuesTold id task leg spawn tile mid new last.arrived
    → PlacesTelling tile id task leg spawn old aborted new last
places_telling tile id task leg spawn old mid new aborted effect last makes is enqueues = (
  record { mid = mid; forced = makes.0; change = enqueues.0 },
  subst (λ e. TellsRoom tile (Enqueuer id) old aborted mid makes.0 e) (sym is)
      (room_told tile (Enqueuer id) old makes.0 effect last.arrived makes.1),
  enqueues.1,
)

module _ (N : Type 0) (old : View) (placers : List Policy) (taps : List TapValue) (steps : ℕ)
    (tile core id : ℕ) (leg : LegValue) (task : Task) (spawn : Spawn)
    (goes_on : IsOver old → ⊥) (asks : Asks old leg id (Enqueue spawn)) (takes : TakesLeg old tile core leg id
    task)
    (target : ℕ) (chosen : target ≡ picked_tile (book_of old placers taps steps) spawn.hint) where
  -- the task asks for its child
  asked : request_of old task leg ≡ Enqueue spawn
  asked = asks_same old tile core id leg task (Enqueue spawn) asks takes

  -- the step is granted where that tile gives a place
  pub granted_enqueue : (Stalls old target (Enqueuer id) → ⊥)
      → IsGranted {N = N} (book_of old placers taps steps) (event.Step tile core leg)
  granted_enqueue free =
      granted N old placers taps steps tile core id leg task (Enqueue spawn) goes_on asks takes
      (child_no_stall (book_of old placers taps steps) tile core id leg task takes spawn asked
      (λ stalls. free (subst (λ t. Stalls old t (Enqueuer id)) (sym chosen) stalls)))
      (no_end_no_stall (book_of old placers taps steps) tile core id leg task takes (λ same. absurd (cc (
        same,
        asked,
      ))))

  -- it stalls where it gives none
  pub stalls_enqueue : Stalls old target (Enqueuer id) → (effect : EffectValue) → effect ≡ nothing
      → ComesTelling {N = N} (book_of old placers taps steps) (event.Step tile core leg) (Refused reply.Stall) old
      placers effect
  stalls_enqueue stalls effect fresh = (
    (
      stall_is_refused N (book_of old placers taps steps) goes_on tile core leg (inl (record {
        id = id;
        task = task;
        takes = takes;
        spawn = spawn;
        asks = asked;
        stalls = subst (λ t. Stalls old t (Enqueuer id)) chosen stalls;
      })),
      (refl, refl),
    ),
    fresh,
  )

  -- memory may run out for it
  pub wants_child : (Stalls old target (Enqueuer id) → ⊥) → (new : View) (effect : EffectValue) → new ≡ old
      → effect ≡ nothing
      → ComesTelling {N = N} (book_of old placers taps steps) (event.Step tile core leg) (Refused reply.Memory) new
      placers effect
  wants_child free new effect same fresh =
      wants_memory N old placers taps steps tile core id leg task (Enqueue spawn) goes_on asks takes new effect
      (granted_enqueue free) tt same fresh

  -- and else it is made, and the serving placer is told
  pub made_enqueue : (Stalls old target (Enqueuer id) → ⊥) → target < old.settings.tiles → (ready : View)
      → ready ≡ old
      → (aborted : ℕ) (new : View) (after : List Policy) (effect : EffectValue) (seen : Record)
      → PlacesTelling target id task leg spawn ready aborted new effect → after ≡ first_placed placers target
      → seen ≡ record_of Call tile None aborted new
      → ComesTelling {N = N} (book_of old placers taps steps) (event.Step tile core leg) (Made seen) new after effect
  made_enqueue free inside ready same aborted new after effect seen placed told is =
      let places : PlacesTelling target id task leg spawn old aborted new effect =
      subst (λ v. PlacesTelling target id task leg spawn v aborted new effect) same placed in
      let there : PlacesTelling (picked_tile (book_of old placers taps steps) spawn.hint) id task leg spawn old
      aborted new effect =
      subst (λ t. PlacesTelling t id task leg spawn old aborted new effect) chosen places in
      let comes : EnqueueEvent tile core leg id task spawn (book_of old placers taps steps) aborted new after =
      record {
        inside = subst (λ t. t < old.settings.tiles) chosen inside;
        mid = there.0.mid;
        forced = there.0.forced;
        change = there.0.change;
        told = told ∙ ap (first_placed placers) chosen;
      } in
      made_granted N old placers taps steps tile core id leg task (Enqueue spawn) goes_on asks takes aborted
      new after effect seen
      (granted_enqueue free) (comes, (there.1, there.2)) is
