-- What comes of a step, by what its task asks for, and what it tells.
use Rattle.std.proofs.Common.{ℕ, ◌≡◌, List, None, refl, sym, ap, subst, ◌∙◌}
use Rattle.std.proofs.lemmas.Option.{same_Some}
use Rattle.guest_image.specs.ImageValue.{ImageValue}
use Rattle.place_policy.specs.Policy.{Policy}
use Rattle.trace_tap.specs.declared.record.Record.{Record}
use Rattle.trace_tap.specs.TapValue.{TapValue}
use Rattle.rv_core.specs.LegValue.{LegValue}
use Rattle.task_request.specs.declared.request.Request.{Request}
use Rattle.task_request.specs.declared.request.Request.TheVariants.{Enqueue, End}
use Rattle.event_prelude.specs.spec_state.declared.task.Task.{Task}
use Rattle.event_prelude.specs.spec_state.Effects.{EffectValue, nothing}
use Rattle.event_prelude.specs.spec_state.View.{View}
use Rattle.event_prelude.specs.spec_state.Changes.{TakesLeg, request_of}
use Rattle.spec_access.specs.Asking.{Asks}
use Rattle.event_prelude.specs.event_def.declared.event.Came.TheVariants.{Made, Refused}
use Rattle.event_prelude.specs.event_def.declared.event.Event.TheVariants as event
use Rattle.event_prelude.specs.event_def.declared.event.Reply.TheVariants as reply
use Rattle.event_prelude.specs.event_def.Book.{BookView, book_of}
use Rattle.event_prelude.specs.event_def.Causes.{IsGranted, RequestTakesMemory, StallsAtEnqueue, StallsAtEnd}
use Rattle.event_prelude.specs.event_def.End.{IsOver}
use Rattle.event_prelude.specs.event_def.Events.{ComesTo, StepEvent}
use Rattle.event_prelude.specs.event_def.Telling.{ComesTelling, TellsNeither, TellsRequest}
use Rattle.event_prelude.specs.event_def.Trace.{deed_of, line_of_request, record_of}
use Rattle.event_prelude.specs.event_basis.Forcing.{TakesStill}
use Rattle.event_prelude.proofs.Below.event_basis.Proved.{no_child_no_stall, no_end_no_stall, step_is_granted}

-- a step may stall at an enqueue and at an end call
abbrev pub MayStall : Request → Type 0
MayStall (Enqueue spawn) = Unit {0}
MayStall End = Unit {0}
MayStall other = ⊥

-- what comes of a request, and what it tells
abbrev pub RequestTelling : ℕ → ℕ → LegValue → ℕ → Task → Request → BookView → ℕ → View → List Policy → EffectValue
    → Type 0
RequestTelling tile core leg id task request book aborted new placers effect =
    (comes : ComesTo tile core leg id task request book aborted new placers)
    × TellsRequest tile core leg id task request book aborted new placers comes effect

-- what did nothing tells of no task
pub tells_neither : (effect : EffectValue) → effect ≡ nothing → TellsNeither effect × (effect.arrived ≡ None)
tells_neither effect fresh = (
  (ap (λ (e : EffectValue). e.back) fresh, ap (λ (e : EffectValue). e.spilled) fresh),
  ap (λ (e : EffectValue). e.arrived) fresh,
)

-- a task that takes the leg asks for what the task of this id is known to ask for
pub asks_same : (view : View) (tile core id : ℕ) (leg : LegValue) (task : Task) (request : Request)
    → Asks view leg id request → TakesLeg view tile core leg id task → request_of view task leg ≡ request
asks_same view tile core id leg task request asks takes =
    let same : task ≡ asks.task = same_Some task asks.task (sym takes.runs.on.there ∙ asks.takes.runs.on.there) in
    ap (λ (t : Task). request_of view t leg) same ∙ asks.asks

-- where that task stays and still takes its leg, it asks for the same
pub asks_still : (image : ImageValue) (old mid : View) (tile core id : ℕ) (leg : LegValue) (task : Task)
    (request : Request)
    → Asks old leg id request → TakesLeg old tile core leg id task
    → TakesStill image tile core leg id task old mid
    → Asks mid leg id request
asks_still image old mid tile core id leg task request asks takes still =
    record {
      tile = tile;
      core = core;
      task = task;
      takes = still.takes;
      asks = still.asks ∙ asks_same old tile
          core id leg task request asks takes;
    }

module _ (N : Type 0) (old : View) (placers : List Policy) (taps : List TapValue) (steps : ℕ)
    (tile core id : ℕ) (leg : LegValue) (task : Task) (request : Request)
    (goes_on : IsOver old → ⊥) (asks : Asks old leg id request) (takes : TakesLeg old tile core leg id task) where
  abbrev pub book : BookView
  book = book_of old placers taps steps

  -- it asks for this
  asked : request_of old task leg ≡ request
  asked = asks_same old tile core id leg task request asks takes

  -- a step that stalls neither at an enqueue nor at an end call is granted
  pub granted : (StallsAtEnqueue book tile core leg → ⊥) → (StallsAtEnd old tile core leg → ⊥)
      → IsGranted {N = N} book (event.Step tile core leg)
  granted no_enqueue no_end = step_is_granted N book goes_on tile core id leg task takes no_enqueue no_end

  -- one whose request never stalls
  pub granted_quietly : (MayStall request → ⊥) → IsGranted {N = N} book (event.Step tile core leg)
  granted_quietly never = granted
      (no_child_no_stall book tile core id leg task takes
      (λ spawn same. never (subst MayStall (sym same ∙ asked) tt)))
      (no_end_no_stall book tile core id leg task takes (λ same. never (subst MayStall (sym same ∙ asked) tt)))

  -- a granted step is made
  pub made_granted : (aborted : ℕ) (new : View) (after : List Policy) (effect : EffectValue) (seen : Record)
      → IsGranted {N = N} book (event.Step tile core leg)
      → RequestTelling tile core leg id task request book aborted new after effect
      → seen ≡ record_of (deed_of request) tile (line_of_request old.settings.line request) aborted new
      → ComesTelling {N = N} book (event.Step tile core leg) (Made seen) new after effect
  made_granted aborted new after effect seen may telling is =
      let told = subst (λ r. RequestTelling tile core leg id task r book aborted new after effect) (sym asked)
      telling in
      let step : StepEvent tile core leg book aborted new after =
      record { id = id; task = task; takes = takes; comes = told.0 } in
      subst (λ (s : Record). ComesTelling {N = N} book (event.Step tile core leg) (Made s) new after effect) (sym is) (
        (
          may,
          step,
          (
            id,
            task,
            takes,
            ap (λ r. record_of (deed_of r) tile (line_of_request old.settings.line r) aborted new) (sym asked),
          ),
        ),
        told.1,
      )

  -- memory runs out for a granted step
  pub wants_memory : (new : View) (effect : EffectValue) → IsGranted {N = N} book (event.Step tile core leg)
      → RequestTakesMemory request → new ≡ old → effect ≡ nothing
      → ComesTelling {N = N} book (event.Step tile core leg) (Refused reply.Memory) new placers effect
  wants_memory new effect may memory same none = (
    (
      may,
      record { id = id; task = task; takes = takes; memory = subst RequestTakesMemory (sym asked) memory },
      (same, refl),
    ),
    none,
  )

  -- for one whose request never stalls
  pub wants_quietly : (MayStall request → ⊥) → RequestTakesMemory request → (new : View) (effect : EffectValue)
      → new ≡ old → effect ≡ nothing
      → ComesTelling {N = N} book (event.Step tile core leg) (Refused reply.Memory) new placers effect
  wants_quietly never memory new effect = wants_memory new effect (granted_quietly never) memory

  -- a step whose request never stalls is made on a view that is the same
  pub made_quietly : (MayStall request → ⊥) → (ready : View) → ready ≡ old
      → (aborted : ℕ) (new : View) (effect : EffectValue) (seen : Record)
      → RequestTelling tile core leg id task request (book_of ready placers taps steps) aborted new placers effect
      → seen ≡ record_of (deed_of request) tile (line_of_request ready.settings.line request) aborted new
      → ComesTelling {N = N} book (event.Step tile core leg) (Made seen) new placers effect
  made_quietly never ready same aborted new effect seen telling is =
      made_granted aborted new placers effect seen (granted_quietly never)
      (subst
      (λ v. RequestTelling tile core leg id task request (book_of v placers taps steps) aborted new placers effect)
      same telling)
      (is ∙ ap (λ (v : View). record_of (deed_of request) tile (line_of_request v.settings.line request) aborted new)
      same)
