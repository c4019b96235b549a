-- What each event does where it is answered Ok: what it forces, a renumbering where a dispatch finds no number left,
-- and then its one change; and which events may be handed to a book.
use Rattle.std.specs.Prelude.{◌≡◌, ◌⊎◌, ◌/◌, ℕ, ◌<◌, Bool, true, false, List, length}
use Rattle.place_policy.specs.Policy.{Policy}
use Rattle.place_policy.specs.Serving.{first_placed}
use Rattle.guest_image.specs.ImageValue.{ImageValue}
use Rattle.rv_core.specs.LegValue.{LegValue, IsLegOfImage}
use Rattle.rv_table.specs.declared.instr.LoadWidth.{LoadWidth}
use Rattle.task_desc.specs.declared.desc.Spawn.{Spawn}
use Rattle.task_request.specs.declared.request.Request.{Request}
use Rattle.task_request.specs.declared.request.Request.TheVariants.{Continue, Load, Store, Enqueue, MakeSub, Emit, End}
use Rattle.task_request.specs.declared.request.Request.TheVariants.{Trap}
use Rattle.spec_state.specs.declared.settings.Settings.{Settings}
use Rattle.spec_state.specs.declared.task.Task.{Task}
use Rattle.spec_state.specs.View.{View, finished_at}
use Rattle.spec_state.specs.Least.{IsLeastSpilled}
use Rattle.spec_state.specs.Queries.{IsFreeCore, IsLatestOnCore, IsLatestDispatched, IsLatestFinished, IsLater}
use Rattle.spec_state.specs.Queries.{Conflicts}
use Rattle.spec_state.specs.Aborts.{Aborts, OnlyNode}
use Rattle.spec_state.specs.Room.{Enqueuer, Splitter, MakesRoom, QueueHasRoom, Coalesces, Splits}
use Rattle.spec_state.specs.Numbers.{FreesNumber}
use Rattle.spec_state.specs.Changes as change
use Rattle.spec_state.specs.Changes.{TakesLeg, request_of}
use Rattle.event_def.specs.declared.event.Event.{Event}
use Rattle.event_def.specs.declared.event.Event.TheVariants as event
use Rattle.event_def.specs.Book.{BookView, picked_tile, placers_after_commit}
use Rattle.event_def.specs.Causes.{AllCoresHeld, IsCommitFull}

-- a core of the tile is free, or else the latest task on one is aborted
pub data FreesCore (tile : ℕ) (old : View) : ℕ → View → Type 0 where
  has_free : (core : ℕ) → IsFreeCore old tile core → FreesCore tile old 0 old
  aborts_latest : (aborted v : ℕ) (task : Task) (new : View) → AllCoresHeld old tile
      → IsLatestOnCore old tile v task → Aborts (OnlyNode v) old aborted new
      → FreesCore tile old aborted new

-- a core is freed where none is free, the numbers in use are renumbered where none is left, and then the least idle
-- task is dispatched
pub record DispatchEvent (tile : ℕ) (old : View) (aborted : ℕ) (new : View) : Type 0 where
  pub mid : View
  pub forced : FreesCore tile old aborted mid
  pub ready : View
  pub number : FreesNumber mid ready
  pub change : change.Dispatches tile ready new

-- the commit queue of the tile has a free place, or else the latest task in it, which is later than this one, is
-- aborted
pub data FreesCommit (tile : ℕ) (task : Task) (old : View) : ℕ → View → Type 0 where
  has_free : length (finished_at old tile) < old.settings.commit_queue → FreesCommit tile task old 0 old
  aborts_latest : (aborted v : ℕ) (x : Task) (new : View) → IsCommitFull old tile → IsLatestFinished old tile v x
      → IsLater old task v x
      → Aborts (OnlyNode v) old aborted new → FreesCommit tile task old aborted new

-- no task is aborted, and nothing is reported to a placer
pub record IsQuiet (aborted : ℕ) (before after : List Policy) : Type 0 where
  pub none : aborted ≡ 0
  pub same : after ≡ before

-- the cascades of all tasks that conflict with an access at this offset, a store if `write`, are aborted as one set
abbrev pub TakesConflicts : Task → ℕ → Bool → View → ℕ → View → Type 0
TakesConflicts task offset write old aborted new =
    Aborts (Conflicts old task (offset / old.settings.line) write) old aborted new

-- what the task of this id does at the end of the leg that it took, on this core of this tile: the step event by its
-- request
module _ (tile core : ℕ) (leg : LegValue) (id : ℕ) (task : Task) where
  -- a load: what conflicts with it is aborted, and then it is made
  pub record LoadEvent (width : LoadWidth) (rd offset : ℕ) (old : View) (aborted : ℕ) (new : View) : Type 0 where
    pub mid : View
    pub forced : TakesConflicts task offset false old aborted mid
    pub change : change.LoadsFrom id task leg width rd offset mid new

  -- a store, likewise
  pub record StoreEvent (offset width value : ℕ) (old : View) (aborted : ℕ) (new : View) : Type 0 where
    pub mid : View
    pub forced : TakesConflicts task offset true old aborted mid
    pub change : change.StoresTo id task leg offset width value mid new

  -- an enqueue: the tile that the serving placer picks, which the machine has, makes room, its task queue gets the
  -- child, and this is reported to that placer
  pub record EnqueueEvent (spawn : Spawn) (book : BookView) (aborted : ℕ) (new : View)
      (placers : List Policy) : Type 0 where
    pub inside : picked_tile book spawn.hint < book.view.settings.tiles
    pub mid : View
    pub forced : MakesRoom (picked_tile book spawn.hint) (Enqueuer id) book.view aborted mid
    pub change : change.Enqueues id task leg spawn (picked_tile book spawn.hint) mid new
    pub told : placers ≡ first_placed book.placers (picked_tile book spawn.hint)

  -- an end call: the commit queue gets a free place first
  pub record EndEvent (old : View) (aborted : ℕ) (new : View) : Type 0 where
    pub mid : View
    pub forced : FreesCommit tile task old aborted mid
    pub change : change.Finishes tile core id task leg mid new

  -- the outcome of each request
  abbrev pub ComesTo : Request → BookView → ℕ → View → List Policy → Type 0
  ComesTo Continue book aborted new placers =
      change.KeepsQuantum id task leg book.view new × IsQuiet aborted book.placers placers
  ComesTo (Load width rd offset) book aborted new placers =
      LoadEvent width rd offset book.view aborted new × (placers ≡ book.placers)
  ComesTo (Store offset width value) book aborted new placers =
      StoreEvent offset width value book.view aborted new × (placers ≡ book.placers)
  ComesTo (Enqueue spawn) book aborted new placers = EnqueueEvent spawn book aborted new placers
  ComesTo (MakeSub kind) book aborted new placers =
      change.MakesSub id task leg kind book.view new × IsQuiet aborted book.placers placers
  ComesTo (Emit byte) book aborted new placers =
      change.Emits id task leg byte book.view new × IsQuiet aborted book.placers placers
  ComesTo End book aborted new placers = EndEvent book.view aborted new × (placers ≡ book.placers)
  ComesTo (Trap cause) book aborted new placers =
      change.KeepsTrap id task leg core cause book.view new × IsQuiet aborted book.placers placers

-- a step: the task that runs there takes the leg, and what it asks for at the end is done
pub record StepEvent (tile core : ℕ) (leg : LegValue) (book : BookView) (aborted : ℕ) (new : View)
    (placers : List Policy) : Type 0 where
  pub id : ℕ
  pub task : Task
  pub takes : TakesLeg book.view tile core leg id task
  pub comes : ComesTo tile core leg id task (request_of book.view task leg) book aborted new placers

-- the latest dispatched task of the tile is aborted
pub record AbortEvent (tile : ℕ) (old : View) (aborted : ℕ) (new : View) : Type 0 where
  pub id : ℕ
  pub task : Task
  pub latest : IsLatestDispatched old tile id task
  pub aborts : Aborts (OnlyNode id) old aborted new

-- the least spilled task of the tile comes back: the tile's task queue has a free place, or makes room where that
-- task is the least one
pub record SplitEvent (tile : ℕ) (old : View) (aborted : ℕ) (new : View) : Type 0 where
  pub mid : View
  pub tried : QueueHasRoom old tile ⊎ IsLeastSpilled old tile
  pub forced : MakesRoom tile Splitter old aborted mid
  pub change : Splits tile mid new

-- the event leads from a book to this view and these placers, and aborts `aborted` tasks
abbrev pub Makes : {N : Type 0} → BookView → Event N → ℕ → View → List Policy → Type 0
Makes book (event.Dispatch tile) aborted new placers = DispatchEvent tile book.view aborted new
    × (placers ≡ book.placers)
Makes book (event.Step tile core leg) aborted new placers = StepEvent tile core leg book aborted new placers
Makes book (event.Abort tile) aborted new placers = AbortEvent tile book.view aborted new × (placers ≡ book.placers)
Makes book event.Commit aborted new placers =
    change.Commits book.view new × (aborted ≡ 0)
    × (placers ≡ placers_after_commit book.view.settings.phase (length new.history) book.placers)
Makes book (event.Coalesce tile) aborted new placers = Coalesces tile book.view new
    × IsQuiet aborted book.placers placers
Makes book (event.Split tile) aborted new placers = SplitEvent tile book.view aborted new × (placers ≡ book.placers)

-- an event that may be handed to a book of these settings: its tile and its core are there, and its leg is one of the
-- image within the budget, which the type of a leg keeps
abbrev pub IsGiven : {N : Type 0} → ImageValue → Settings → Event N → Type 0
IsGiven image settings (event.Dispatch tile) = tile < settings.tiles
IsGiven image settings (event.Step tile core leg) =
    (tile < settings.tiles) × (core < settings.cores) × IsLegOfImage image settings.budget leg
IsGiven image settings (event.Abort tile) = tile < settings.tiles
IsGiven image settings event.Commit = Unit {0}
IsGiven image settings (event.Coalesce tile) = tile < settings.tiles
IsGiven image settings (event.Split tile) = tile < settings.tiles
