-- The task that takes a leg, and what it asks for.
use Rattle.std.specs.Prelude.{◌≡◌, ◌⊎◌, ◌<◌, ℕ, length}
use Rattle.guest_image.specs.declared.image.Kind.{Kind}
use Rattle.rv_core.specs.LegValue.{LegValue}
use Rattle.rv_table.specs.declared.instr.LoadWidth.{LoadWidth}
use Rattle.task_desc.specs.declared.desc.Spawn.{Spawn}
use Rattle.task_request.specs.declared.request.Request.{Request}
use Rattle.task_request.specs.declared.request.Request.TheVariants.{Continue, Load, Store, Enqueue, MakeSub, Emit, Trap}
use Rattle.spec_dispatch.specs.spec_state.declared.task.Task.{Task}
use Rattle.spec_dispatch.specs.spec_state.Filters.{HasNotes}
use Rattle.spec_dispatch.specs.spec_state.View.{View, finished_at}
use Rattle.spec_dispatch.specs.spec_state.Queries.{IsOnCore}
use Rattle.spec_dispatch.specs.spec_state.Changes.{TakesLeg, request_of}

-- the task of this id takes the leg, on a core of this tile
abbrev pub HasTakerIn : View → ℕ → LegValue → ℕ → Type 0
HasTakerIn view tile leg id = (core : ℕ) × (task : Task) × TakesLeg view tile core leg id task

-- on a core of some tile
abbrev pub HasTaker : View → LegValue → ℕ → Type 0
HasTaker view leg id = (tile core : ℕ) × (task : Task) × TakesLeg view tile core leg id task

-- so it is of the task of this id, on whichever core of this tile it takes the leg
abbrev pub OfTakerIn : View → ℕ → LegValue → ℕ → (ℕ → Task → Type 0) → Type 0
OfTakerIn view tile leg id says = (core : ℕ) (task : Task) → TakesLeg view tile core leg id task → says core task

-- on whichever core of whichever tile
abbrev pub OfTaker : View → LegValue → ℕ → (ℕ → ℕ → Task → Type 0) → Type 0
OfTaker view leg id says = (tile : ℕ) → OfTakerIn view tile leg id (says tile)

-- and where it asks for this at the leg's end
abbrev pub OfTakerAsking : View → LegValue → ℕ → Request → (ℕ → ℕ → Task → Type 0) → Type 0
OfTakerAsking view leg id request says =
    OfTaker view leg id (λ tile core task. request_of view task leg ≡ request → says tile core task)

-- the task's filter has the notes of its log
abbrev pub HasOwnNotes : View → Task → Type 0
HasOwnNotes view task = HasNotes view.settings task.lines task.log

-- the task of this id runs on a core, the leg begins at its kept core, and at the leg's end it asks for this
pub record Asks (view : View) (leg : LegValue) (id : ℕ) (request : Request) : Type 0 where
  pub tile : ℕ
  pub core : ℕ
  pub task : Task
  pub takes : TakesLeg view tile core leg id task
  pub asks : request_of view task leg ≡ request

-- the commit queue of the tile on whose core the task of this id stands has a free place
abbrev pub CommitQueueHasRoom : View → ℕ → Type 0
CommitQueueHasRoom view id =
    (tile core : ℕ) × (task : Task)
    × IsOnCore view tile core id task × (length (finished_at view tile) < view.settings.commit_queue)

-- at the leg's end the task asks for a load
abbrev pub AsksToLoad : View → LegValue → ℕ → Type 0
AsksToLoad view leg id = (width : LoadWidth) × (rd offset : ℕ) × Asks view leg id (Load width rd offset)

-- for a store
abbrev pub AsksToStore : View → LegValue → ℕ → Type 0
AsksToStore view leg id = (offset width value : ℕ) × Asks view leg id (Store offset width value)

-- for a child
abbrev pub AsksForChild : View → LegValue → ℕ → Type 0
AsksForChild view leg id = (child : Spawn) × Asks view leg id (Enqueue child)

-- for its subdomain
abbrev pub AsksForSubdomain : View → LegValue → ℕ → Type 0
AsksForSubdomain view leg id = (kind : Kind) × Asks view leg id (MakeSub kind)

-- to emit a byte
abbrev pub AsksToEmit : View → LegValue → ℕ → Type 0
AsksToEmit view leg id = (byte : ℕ) × Asks view leg id (Emit byte)

-- the task requests nothing: it did its quantum, or trapped
abbrev pub AsksForNothing : View → LegValue → ℕ → Type 0
AsksForNothing view leg id = Asks view leg id Continue ⊎ ((cause : ℕ) × Asks view leg id (Trap cause))
