-- Each change keeps a sound view sound; of an abort and a renumbering `AbortLaws` and `Renumbering` say it.
use Rattle.std.specs.Prelude.{◌≡◌, ◌/◌, ℕ, ◌<◌, Bool, true, false, length, Some}
use Rattle.guest_image.specs.declared.image.Kind.{Kind}
use Rattle.guest_image.specs.ImageValue.{ImageValue}
use Rattle.rv_core.specs.LegValue.{LegValue, IsLegOfImage}
use Rattle.rv_table.specs.declared.instr.LoadWidth.{LoadWidth}
use Rattle.spec_state.specs.serial_machine.Turn.{turn}
use Rattle.task_desc.specs.declared.desc.Spawn.{Spawn}
use Rattle.spec_state.specs.declared.numbers.TheConstants.{DISPATCH_NUMBERS}
use Rattle.task_request.specs.declared.request.Request.{Request}
use Rattle.task_request.specs.declared.request.Request.TheVariants.{Load, Store, Enqueue, MakeSub, Emit, End, Trap}
use Rattle.spec_state.specs.declared.task.Task.{Task}
use Rattle.spec_state.specs.View.{View, finished_at}
use Rattle.spec_state.specs.Tasks.{depth_of}
use Rattle.spec_state.specs.Queries.{Conflicts}
use Rattle.spec_state.specs.Room.{Coalesces, Splits, QueueHasRoom}
use Rattle.spec_state.specs.Changes.{Dispatches, TakesLeg, request_of, KeepsQuantum, KeepsTrap, LoadsFrom, StoresTo}
use Rattle.spec_state.specs.Changes.{Enqueues}
use Rattle.spec_state.specs.Changes.{MakesSub, Emits, Finishes, Commits}
use Rattle.spec_law.specs.Sound.{Sound, StaysSound}

-- a dispatch, where a dispatch number is left, keeps a view sound
abbrev pub DispatchStaysSound : Type 0
DispatchStaysSound =
    (image : ImageValue) (old new : View) (sound : Sound image old) (tile : ℕ)
    → old.next < DISPATCH_NUMBERS → Dispatches tile old new → StaysSound image old sound new

-- the leg is one of a running task: it begins at the task's core and is a run of plain instructions of the image
pub record IsLegOf (image : ImageValue) (view : View) (tile core : ℕ) (leg : LegValue) (id : ℕ)
    (task : Task) : Type 0 where
  pub takes : TakesLeg view tile core leg id task
  pub run : IsLegOfImage image view.settings.budget leg

-- the leg is one of a running task, which asks for this at its end
pub record AsksAt (image : ImageValue) (view : View) (tile core : ℕ) (leg : LegValue) (id : ℕ) (task : Task)
    (request : Request) : Type 0 where
  pub is_leg : IsLegOf image view tile core leg id task
  pub asks : request_of view task leg ≡ request

-- a leg of a running task, up to its quantum, keeps a view sound
abbrev pub QuantumStaysSound : Type 0
QuantumStaysSound =
    (image : ImageValue) (old new : View) (sound : Sound image old) (tile core id : ℕ) (leg : LegValue) (task : Task)
    → IsLegOf image old tile core leg id task → KeepsQuantum id task leg old new → StaysSound image old sound new

-- a trap, or a call that traps, keeps a view sound
abbrev pub TrapStaysSound : Type 0
TrapStaysSound =
    (image : ImageValue) (old new : View) (sound : Sound image old) (tile core id cause : ℕ) (leg : LegValue)
    (task : Task)
    → AsksAt image old tile core leg id task (Trap cause) → KeepsTrap id task leg core cause old new
    → StaysSound image old sound new

-- no task conflicts with an access at this offset, a store if `write`
abbrev pub NoneConflicts : View → Task → ℕ → Bool → Type 0
NoneConflicts view task offset write = (k : ℕ) → Conflicts view task (offset / view.settings.line) write k → ⊥

-- a load with which no task conflicts keeps a view sound
abbrev pub LoadStaysSound : Type 0
LoadStaysSound =
    (image : ImageValue) (old new : View) (sound : Sound image old) (tile core id : ℕ) (leg : LegValue) (task : Task)
    (width : LoadWidth) (rd offset : ℕ)
    → AsksAt image old tile core leg id task (Load width rd offset) → NoneConflicts old task offset false
    → LoadsFrom id task leg width rd offset old new → StaysSound image old sound new

-- a store with which no task conflicts keeps a view sound
abbrev pub StoreStaysSound : Type 0
StoreStaysSound =
    (image : ImageValue) (old new : View) (sound : Sound image old) (tile core id : ℕ) (leg : LegValue) (task : Task)
    (offset width value : ℕ)
    → AsksAt image old tile core leg id task (Store offset width value) → NoneConflicts old task offset true
    → StoresTo id task leg offset width value old new → StaysSound image old sound new

-- an enqueue, to a tile whose task queue has a free place, keeps a view sound
abbrev pub EnqueueStaysSound : Type 0
EnqueueStaysSound =
    (image : ImageValue) (old new : View) (sound : Sound image old) (tile core id target : ℕ) (leg : LegValue)
    (task : Task) (spawn : Spawn)
    → AsksAt image old tile core leg id task (Enqueue spawn) → target < old.settings.tiles → QueueHasRoom old target
    → Enqueues id task leg spawn target old new → StaysSound image old sound new

-- a call that makes a subdomain keeps a view sound
abbrev pub SubStaysSound : Type 0
SubStaysSound =
    (image : ImageValue) (old new : View) (sound : Sound image old) (tile core id : ℕ) (leg : LegValue)
    (task : Task) (kind : Kind)
    → AsksAt image old tile core leg id task (MakeSub kind) → MakesSub id task leg kind old new
    → StaysSound image old sound new

-- a call that emits a byte keeps a view sound
abbrev pub ByteStaysSound : Type 0
ByteStaysSound =
    (image : ImageValue) (old new : View) (sound : Sound image old) (tile core id byte : ℕ) (leg : LegValue)
    (task : Task)
    → AsksAt image old tile core leg id task (Emit byte) → Emits id task leg byte old new
    → StaysSound image old sound new

-- an end call, where the commit queue has a free place, keeps a view sound
abbrev pub EndStaysSound : Type 0
EndStaysSound =
    (image : ImageValue) (old new : View) (sound : Sound image old) (tile core id : ℕ) (leg : LegValue) (task : Task)
    → AsksAt image old tile core leg id task End → length (finished_at old tile) < old.settings.commit_queue
    → Finishes tile core id task leg old new → StaysSound image old sound new

-- a coalescing keeps a view sound
abbrev pub CoalesceStaysSound : Type 0
CoalesceStaysSound = (image : ImageValue) (old new : View) (sound : Sound image old) (tile : ℕ)
    → Coalesces tile old new → StaysSound image old sound new

-- a split, where the task queue has a free place, keeps a view sound
abbrev pub SplitStaysSound : Type 0
SplitStaysSound =
    (image : ImageValue) (old new : View) (sound : Sound image old) (tile : ℕ)
    → tile < old.settings.tiles → QueueHasRoom old tile → Splits tile old new → StaysSound image old sound new

-- a commit, while fewer tasks have committed than may, is a turn of the serial machine, and its view is sound
-- against the state after that turn
abbrev pub CommitIsSoundTurn : Type 0
CommitIsSoundTurn =
    (image : ImageValue) (old new : View) (sound : Sound image old) → length old.history < old.settings.commits
    → (commit : Commits old new)
    → (now : Sound image new)
    × (turn image old.settings.budget sound.serial (record { creator = commit.turn; index = commit.index })
    ≡ Some (
      now.serial,
      record {
        name = record { creator = commit.turn; index = commit.index };
        depth = depth_of commit.task;
        ts = commit.task.key.ts;
      },
    ))
