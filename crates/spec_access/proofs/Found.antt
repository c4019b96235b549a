-- What a task asks for is one thing: what was found for its leg is what any clause says of it.
use Rattle.std.proofs.Common.{◌≡◌, ◌⊎◌, inl, inr, ℕ, Result, Ok, Err, refl, sym, subst, ◌∙◌}
use Rattle.std.specs.Prelude.{OnOk}
use Rattle.std.specs.declared.option.Option.{Option}
use Rattle.guest_image.specs.declared.image.Kind.{Kind}
use Rattle.rv_core.specs.LegValue.{LegValue}
use Rattle.rv_table.specs.declared.instr.LoadWidth.{LoadWidth}
use Rattle.task_desc.specs.declared.desc.Spawn.{Spawn}
use Rattle.task_request.specs.declared.request.Request.{Request}
use Rattle.task_request.specs.declared.request.Request.TheVariants.{Continue, Load, Store, Enqueue, MakeSub, Emit}
use Rattle.task_request.specs.declared.request.Request.TheVariants.{Trap}
use Rattle.spec_dispatch.specs.spec_state.declared.task.Task.{Task}
use Rattle.spec_dispatch.specs.spec_state.declared.task.TaskId.{TaskId}
use Rattle.spec_dispatch.specs.spec_state.View.{View}
use Rattle.spec_dispatch.specs.spec_state.Changes.{TakesLeg, request_of, LoadsFrom, StoresTo, MakesSub, Emits}
use Rattle.spec_access.specs.Asking.{Asks, AsksForNothing, HasOwnNotes, HasTaker, OfTaker, OfTakerAsking}
use Rattle.spec_access.specs.Telling.{EnqueuesTold}
use Rattle.spec_access.proofs.Asking.{asked_is}

-- two requests of one leg are one
pub one_request : (view : View) (leg : LegValue) (id : ℕ) (found request : Request) → Asks view leg id found
    → Asks view leg id request → found ≡ request
one_request view leg id found request first second =
    sym (asked_is view view leg id found second.task first refl second.takes.runs.on.there) ∙ second.asks

module _ (view : View) (leg : LegValue) (id : ℕ) (found : Request) (asks : Asks view leg id found) where
  pub found_is : (tile core : ℕ) (task : Task) (request : Request) → TakesLeg view tile core leg id task
      → request_of view task leg ≡ request → found ≡ request
  found_is tile core task request takes is =
      one_request view leg id found request asks
      (record { tile = tile; core = core; task = task; takes = takes; asks = is })

  -- so what is promised for the request that was found is promised for whatever the task asks for
  pub found_so : (so : ℕ → ℕ → Task → Request → Type 0) (request : Request) → found ≡ request
      → OfTaker view leg id (λ tile core task. so tile core task request) → (other : Request)
      → OfTakerAsking view leg id other (λ tile core task. so tile core task other)
  found_so so request is does other = λ tile core task takes asked.
      subst (so tile core task) (sym is ∙ found_is tile core task other takes asked) (does tile core task takes)

-- what a request comes to, where it is one of this kind
abbrev LoadsSo : ℕ → Task → LegValue → View → View → Request → Type 0
LoadsSo id task leg old new (Load width rd offset) = LoadsFrom id task leg width rd offset old new
LoadsSo id task leg old new other = Unit {0}

abbrev StoresSo : ℕ → Task → LegValue → View → View → Request → Type 0
StoresSo id task leg old new (Store offset bytes value) = StoresTo id task leg offset bytes value old new
StoresSo id task leg old new other = Unit {0}

abbrev EnqueuesSo : ℕ → Task → LegValue → ℕ → View → View → Option TaskId → Request → Type 0
EnqueuesSo id task leg tile old new arrived (Enqueue child) = EnqueuesTold id task leg child tile old new arrived
EnqueuesSo id task leg tile old new arrived other = Unit {0}

abbrev MakesSubSo : ℕ → Task → LegValue → View → View → Request → Type 0
MakesSubSo id task leg old new (MakeSub kind) = MakesSub id task leg kind old new
MakesSubSo id task leg old new other = Unit {0}

abbrev EmitsSo : ℕ → Task → LegValue → View → View → Request → Type 0
EmitsSo id task leg old new (Emit byte) = Emits id task leg byte old new
EmitsSo id task leg old new other = Unit {0}

module _ (view new : View) (leg : LegValue) (id : ℕ) (found : Request) (asks : Asks view leg id found) where
  pub makes_found : (kind : Kind) → found ≡ MakeSub kind
      → OfTaker view leg id (λ tile core t. MakesSub id t leg kind view new)
      → (other : Kind) → OfTakerAsking view leg id (MakeSub other) (λ tile core t. MakesSub id t leg other view new)
  makes_found kind is does other =
      found_so view leg id found asks (λ tile core t request. MakesSubSo id t leg view new request) (MakeSub kind) is
      does (MakeSub other)

  pub emits_found : (byte : ℕ) → found ≡ Emit byte → OfTaker view leg id (λ tile core t. Emits id t leg byte view new)
      → (other : ℕ) → OfTakerAsking view leg id (Emit other) (λ tile core t. Emits id t leg other view new)
  emits_found byte is does other =
      found_so view leg id found asks (λ tile core t request. EmitsSo id t leg view new request) (Emit byte) is does
      (Emit other)

-- and likewise for a call that may run out of memory, where it does not
module _ {T E : Type 0} (view new : View) (leg : LegValue) (id : ℕ) (found : Request)
    (asks : Asks view leg id found) where
  pub loads_found : (result : Result T E) (width : LoadWidth) (rd offset : ℕ) → found ≡ Load width rd offset
      → OnOk result (OfTaker view leg id (λ tile core t.
      HasOwnNotes view t → LoadsFrom id t leg width rd offset view new))
      → OnOk result ((w : LoadWidth) (r o : ℕ) → OfTakerAsking view leg id (Load w r o) (λ tile core t.
      HasOwnNotes view t → LoadsFrom id t leg w r o view new))
  loads_found (Ok value) width rd offset is does = λ w r o.
      found_so view leg id found asks (λ tile core t request. HasOwnNotes view t → LoadsSo id t leg view new request)
      (Load width rd offset) is does (Load w r o)
  loads_found (Err error) width rd offset is does = does

  pub stores_found : (result : Result T E) (offset bytes value : ℕ) → found ≡ Store offset bytes value
      → OnOk result (OfTaker view leg id (λ tile core t.
      HasOwnNotes view t → StoresTo id t leg offset bytes value view new))
      → OnOk result ((o b v : ℕ) → OfTakerAsking view leg id (Store o b v) (λ tile core t.
      HasOwnNotes view t → StoresTo id t leg o b v view new))
  stores_found (Ok done) offset bytes value is does = λ o b v.
      found_so view leg id found asks (λ tile core t request. HasOwnNotes view t → StoresSo id t leg view new request)
      (Store offset bytes value) is does (Store o b v)
  stores_found (Err error) offset bytes value is does = does

  pub enqueues_found : (result : Result T E) (tile : ℕ) (child : Spawn) (arrived : Option TaskId)
      → found ≡ Enqueue child
      → OnOk result (OfTaker view leg id (λ from core t. EnqueuesTold id t leg child tile view new arrived))
      → OnOk result ((other : Spawn) → OfTakerAsking view leg id (Enqueue other) (λ from core t.
      EnqueuesTold id t leg other tile view new arrived))
  enqueues_found (Ok value) tile child arrived is does = λ other.
      found_so view leg id found asks (λ from core t request. EnqueuesSo id t leg tile view new arrived request)
      (Enqueue child) is does (Enqueue other)
  enqueues_found (Err error) tile child arrived is does = does

-- a task that asks for nothing takes its leg
pub takes_some : (view : View) (leg : LegValue) (id : ℕ) → AsksForNothing view leg id → HasTaker view leg id
takes_some view leg id (inl asks) = (asks.tile, asks.core, asks.task, asks.takes)
takes_some view leg id (inr traps) = (traps.1.tile, traps.1.core, traps.1.task, traps.1.takes)

pub nothing_asked : (view : View) (leg : LegValue) (id : ℕ) (found : Request) → Asks view leg id found
    → AsksForNothing view leg id → (found ≡ Continue) ⊎ ((cause : ℕ) × (found ≡ Trap cause))
nothing_asked view leg id found asks (inl goes_on) = inl (one_request view leg id found Continue asks goes_on)
nothing_asked view leg id found asks (inr traps) =
    inr (traps.0, one_request view leg id found (Trap traps.0) asks traps.1)
