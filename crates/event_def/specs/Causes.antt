-- Why an event is refused, and which events take memory.
use Rattle.std.specs.Prelude.{◌≡◌, ◌≢◌, ◌⊎◌, ◌++◌, ◌∷◌, ℕ, ◌<◌, ◌≤◌, [], length}
use Rattle.rv_core.specs.LegValue.{LegValue}
use Rattle.task_desc.specs.declared.desc.Spawn.{Spawn}
use Rattle.task_request.specs.declared.request.Request.{Request}
use Rattle.task_request.specs.declared.request.Request.TheVariants.{Load, Store, Enqueue, End}
use Rattle.spec_state.specs.declared.task.Status.TheVariants.{Finished}
use Rattle.spec_state.specs.declared.task.Task.{Task}
use Rattle.spec_state.specs.View.{View, finished_at, block_at}
use Rattle.spec_state.specs.Least.{IsLeastTask, IsLeastSpilled, IsTheLeast}
use Rattle.spec_state.specs.Queries.{IsIdle, IsLeastIdle, IsDispatched, IsLatestDispatched, IsFreeCore, IsFinished}
use Rattle.spec_state.specs.Queries.{IsLater}
use Rattle.spec_state.specs.Room.{Enqueuer, IsMovable, IsFull, Stalls}
use Rattle.spec_state.specs.Changes.{TakesLeg, request_of}
use Rattle.event_def.specs.declared.event.Event.{Event}
use Rattle.event_def.specs.declared.event.Event.TheVariants as event
use Rattle.event_def.specs.declared.event.Reply.{Reply}
use Rattle.event_def.specs.declared.event.Reply.TheVariants as replies
use Rattle.event_def.specs.Book.{BookView, picked_tile}
use Rattle.event_def.specs.End.{IsOver}

-- no core of the tile is free
abbrev pub AllCoresHeld : View → ℕ → Type 0
AllCoresHeld view tile = (core : ℕ) → IsFreeCore view tile core → ⊥

-- all cores of the tile hold a task, and its least idle task isn't the least task
pub record IsBusy (view : View) (tile : ℕ) : Type 0 where
  pub held : AllCoresHeld view tile
  pub id : ℕ
  pub task : Task
  pub idle : IsLeastIdle view tile id task
  pub not_least : IsTheLeast view id → ⊥

-- no task runs on that core, or its kept core isn't that at which the leg begins
abbrev pub IsStale : View → ℕ → ℕ → LegValue → Type 0
IsStale view tile core leg = (id : ℕ) (task : Task) → TakesLeg view tile core leg id task → ⊥

-- an enqueue of a task that isn't the least one, for a tile whose task queue is full and in which nothing moves
pub record StallsAtEnqueue (book : BookView) (tile core : ℕ) (leg : LegValue) : Type 0 where
  pub id : ℕ
  pub task : Task
  pub takes : TakesLeg book.view tile core leg id task
  pub spawn : Spawn
  pub asks : request_of book.view task leg ≡ Enqueue spawn
  pub stalls : Stalls book.view (picked_tile book spawn.hint) (Enqueuer id)

-- the commit queue of the tile is full
abbrev pub IsCommitFull : View → ℕ → Type 0
IsCommitFull view tile = view.settings.commit_queue ≤ length (finished_at view tile)

-- an end call where the commit queue is full and holds no later task
pub record StallsAtEnd (view : View) (tile core : ℕ) (leg : LegValue) : Type 0 where
  pub id : ℕ
  pub task : Task
  pub takes : TakesLeg view tile core leg id task
  pub asks : request_of view task leg ≡ End
  pub full : IsCommitFull view tile
  pub none_later : (k : ℕ) (x : Task) → IsFinished view tile k x → IsLater view task k x → ⊥

-- the latest dispatched task of the tile is the least task
pub record LatestIsLeast (view : View) (tile : ℕ) : Type 0 where
  pub id : ℕ
  pub task : Task
  pub latest : IsLatestDispatched view tile id task
  pub least : IsLeastTask view id task

-- the task queue of the tile is full, and the least task of its block isn't the least task
pub record StallsAtSplit (view : View) (tile : ℕ) : Type 0 where
  pub some : block_at view tile ≢ []
  pub full : IsFull view tile
  pub not_least : IsLeastSpilled view tile → ⊥

-- a cause for which an event is refused with a reply, before the order of the causes is looked at; that the run is
-- over is a cause for each event
abbrev pub Cause : {N : Type 0} → BookView → Event N → Reply → Type 0
Cause book event replies.Ended = IsOver book.view
Cause book (event.Dispatch tile) replies.Empty = (id : ℕ) (task : Task) → IsIdle book.view tile id task → ⊥
Cause book (event.Dispatch tile) replies.Busy = IsBusy book.view tile
Cause book (event.Step tile core leg) replies.Stale = IsStale book.view tile core leg
Cause book (event.Step tile core leg) replies.Stall = StallsAtEnqueue book tile core leg
    ⊎ StallsAtEnd book.view tile core leg
Cause book (event.Abort tile) replies.Empty = (id : ℕ) (task : Task) → IsDispatched book.view tile id task → ⊥
Cause book (event.Abort tile) replies.Firm = LatestIsLeast book.view tile
Cause book event.Commit replies.Empty = (id : ℕ) (task : Task) → IsLeastTask book.view id task → task.status ≢ Finished
Cause book (event.Coalesce tile) replies.Empty = (id : ℕ) → IsMovable book.view tile id → ⊥
Cause book (event.Split tile) replies.Empty = block_at book.view tile ≡ []
Cause book (event.Split tile) replies.Stall = StallsAtSplit book.view tile
Cause book event other = ⊥

-- the place of a refusal in the order in which they are tried
abbrev pub refusal_rank : Reply → ℕ
refusal_rank replies.Ended = 0
refusal_rank replies.Empty = 1
refusal_rank replies.Busy = 2
refusal_rank replies.Stale = 3
refusal_rank replies.Firm = 4
refusal_rank replies.Stall = 5
refusal_rank replies.Memory = 6
refusal_rank replies.Ok = 7

-- the event is refused so: this cause stands, and none that is tried before
pub record IsRefused {N : Type 0} (book : BookView) (event : Event N) (reply : Reply) : Type 0 where
  pub cause : Cause book event reply
  pub first : (other : Reply) → refusal_rank other < refusal_rank reply → Cause book event other → ⊥

-- no cause stands for refusing the event
abbrev pub IsGranted : {N : Type 0} → BookView → Event N → Type 0
IsGranted book event = (other : Reply) → Cause book event other → ⊥

-- a request takes memory at a load, a store and an enqueue
abbrev pub RequestTakesMemory : Request → Type 0
RequestTakesMemory (Load width rd offset) = Unit {0}
RequestTakesMemory (Store offset width value) = Unit {0}
RequestTakesMemory (Enqueue spawn) = Unit {0}
RequestTakesMemory other = ⊥

-- so does a step, by what the task that takes the leg asks for
pub record StepTakesMemory (view : View) (tile core : ℕ) (leg : LegValue) : Type 0 where
  pub id : ℕ
  pub task : Task
  pub takes : TakesLeg view tile core leg id task
  pub memory : RequestTakesMemory (request_of view task leg)

-- the event takes memory: an access or an enqueue, a commit, a coalescing or a split
abbrev pub TakesMemory : {N : Type 0} → BookView → Event N → Type 0
TakesMemory book (event.Dispatch tile) = ⊥
TakesMemory book (event.Step tile core leg) = StepTakesMemory book.view tile core leg
TakesMemory book (event.Abort tile) = ⊥
TakesMemory book event.Commit = Unit {0}
TakesMemory book (event.Coalesce tile) = Unit {0}
TakesMemory book (event.Split tile) = Unit {0}
