-- The one change of a dispatch, a step and a commit, where what it forces is done (the others: `Aborts`, `Room`).
use Rattle.std.specs.Prelude.{◌≡◌, ◌≢◌, ◌+◌, ◌∷◌, ◌++◌, ℕ, List, [], length, map, ◌==◌, Option, Some, None}
use Rattle.std.specs.Prelude.{slice_set, if◌then◌else◌}
use Rattle.guest_image.specs.declared.image.Kind.{Kind}
use Rattle.rv_core.specs.declared.state.Core.{Core}
use Rattle.rv_core.specs.Legs.{after_other_of, after_load_of}
use Rattle.rv_core.specs.Memory.{load_width}
use Rattle.rv_core.specs.LegValue.{LegValue}
use Rattle.rv_table.specs.declared.instr.LoadWidth.{LoadWidth}
use Rattle.task_desc.specs.declared.desc.Spawn.{Spawn}
use Rattle.task_request.specs.declared.request.Request.{Request}
use Rattle.task_request.specs.Requests.{request_at}
use Rattle.tile_queues.specs.Queue.{ids_but}
use Rattle.undo_log.specs.Number.{number_at}
use Rattle.undo_log.specs.Undo.{MemoryCall, Load, Store, access_of, after_call}
use Rattle.spec_state.specs.declared.task.Creator.{Creator}
use Rattle.spec_state.specs.declared.task.Creator.TheVariants.{Committed, Live}
use Rattle.spec_state.specs.declared.task.Status.TheVariants as status
use Rattle.spec_state.specs.declared.task.Task.{Task}
use Rattle.spec_state.specs.View.{View, task_at, finished_at, cores_at, queued_last, ChangesTask}
use Rattle.spec_state.specs.Tasks.{depth_of, own_level, context_of, start_core, child_descriptor, idle_task}
use Rattle.spec_state.specs.Filters.{Lines, HasNotes}
use Rattle.spec_state.specs.Least.{IsLeastTask}
use Rattle.spec_state.specs.Queries.{IsLeastIdle, IsLowestFree, IsRunning}

-- the cores with another holder on one of them
abbrev pub with_core : View → ℕ → ℕ → Option ℕ → List (List (Option ℕ))
with_core view tile core holder = slice_set view.cores tile (slice_set (cores_at view tile) core holder)

-- a dispatch: the least idle task of the tile goes to its lowest free core with the next dispatch number
pub record Dispatches (tile : ℕ) (old new : View) : Type 0 where
  pub id : ℕ
  pub task : Task
  pub least : IsLeastIdle old tile id task
  pub core : ℕ
  pub free : IsLowestFree old tile core
  pub changes : ChangesTask old new id (Some (record task {
    key = record task.key { tb = Some old.next };
    status = status.Running core;
    core = start_core old.version task;
  }))
  pub next : new.next ≡ old.next + 1
  pub cores : new.cores ≡ with_core old tile core (Some id)
  pub frame : new ≡ record old { tasks = new.tasks; next = new.next; cores = new.cores }

-- a task runs on that core, and the leg begins at its kept core
pub record TakesLeg (view : View) (tile core : ℕ) (leg : LegValue) (id : ℕ) (task : Task) : Type 0 where
  pub runs : IsRunning view tile core id task
  pub from : task.core ≡ leg.from

-- what the task asks for at the end of the leg
abbrev pub request_of : View → Task → LegValue → Request
request_of view task leg = request_at (context_of view.version task) leg.to leg.stop

-- the task at the next instruction behind the leg
abbrev pub task_past_leg : Task → LegValue → Task
task_past_leg task leg = record task { core = after_other_of leg.to }

-- the task of this id is this one now, and nothing else changes
pub record Keeps (id : ℕ) (now : Task) (old new : View) : Type 0 where
  pub changes : ChangesTask old new id (Some now)
  pub frame : new ≡ record old { tasks = new.tasks }

-- a leg that did its quantum: the task is at its end
abbrev pub KeepsQuantum : ℕ → Task → LegValue → View → View → Type 0
KeepsQuantum id task leg = Keeps id (record task { core = leg.to })

-- a trap is kept with the task, at the end of its leg
abbrev pub KeepsTrap : ℕ → Task → LegValue → ℕ → ℕ → View → View → Type 0
KeepsTrap id task leg core cause = Keeps id (record task { core = leg.to; status = status.Trapped core cause })

-- a subdomain: the task has its kind
abbrev pub MakesSub : ℕ → Task → LegValue → Kind → View → View → Type 0
MakesSub id task leg kind = Keeps id (record (task_past_leg task leg) { sub = Some kind })

-- a byte stands last among those of the task
abbrev pub Emits : ℕ → Task → LegValue → ℕ → View → View → Type 0
Emits id task leg byte = Keeps id (record (task_past_leg task leg) { bytes = task.bytes ++ byte ∷ [] })

-- this access of memory: the task goes on at this core, and the access joins its log and its filter's notes
pub record Accesses (id : ℕ) (task : Task) (call : MemoryCall) (core : Core) (old new : View) : Type 0 where
  pub lines : Lines
  pub notes : HasNotes old.settings lines (task.log ++ access_of old.memory call ∷ [])
  pub changes : ChangesTask old new id
      (Some (record task { core = core; log = task.log ++ access_of old.memory call ∷ []; lines = lines }))
  pub memory : new.memory ≡ after_call old.memory call
  pub frame : new ≡ record old { tasks = new.tasks; memory = new.memory }

-- a load: the register has what the memory has there
abbrev pub LoadsFrom : ℕ → Task → LegValue → LoadWidth → ℕ → ℕ → View → View → Type 0
LoadsFrom id task leg width rd offset old new =
    let bytes = load_width width in
    Accesses id task (Load offset bytes) (after_load_of leg.to width rd (number_at old.memory offset bytes)) old new

-- a store
abbrev pub StoresTo : ℕ → Task → LegValue → ℕ → ℕ → ℕ → View → View → Type 0
StoresTo id task leg offset width value = Accesses id task (Store offset width value) (after_other_of leg.to)

-- an enqueue: an idle child of a running task stands last in the task queue of this tile
pub record Enqueues (id : ℕ) (task : Task) (leg : LegValue) (spawn : Spawn) (tile : ℕ) (old new : View) : Type 0 where
  pub child : ℕ
  pub vacant : task_at old child ≡ None
  pub creator : task_at new id ≡ Some (record (task_past_leg task leg) { spawns = task.spawns ++ spawn ∷ [] })
  pub made : task_at new child
      ≡ Some (idle_task old.version (child_descriptor task spawn) (Live (record { 0 = id }) (length task.spawns)) tile)
  pub others : (k : ℕ) → k ≢ id → k ≢ child → task_at new k ≡ task_at old k
  pub queues : new.queues ≡ queued_last old tile child
  pub frame : new ≡ record old { tasks = new.tasks; queues = new.queues }

-- an end call: the task leaves its core for the commit queue of its tile
pub record Finishes (tile core id : ℕ) (task : Task) (leg : LegValue) (old new : View) : Type 0 where
  pub changes : ChangesTask old new id (Some (record (task_past_leg task leg) { status = status.Finished }))
  pub finished : new.finished ≡ slice_set old.finished tile (finished_at old tile ++ id ∷ [])
  pub cores : new.cores ≡ with_core old tile core None
  pub frame : new ≡ record old { tasks = new.tasks; finished = new.finished; cores = new.cores }

-- the creator, once the task of this id has committed as the n-th
abbrev pub creator_after : ℕ → ℕ → Creator → Creator
creator_after id n (Committed turn index) = Committed turn index
creator_after id n (Live task index) = if task.0 == id then Committed n index else Live task index

-- the task of this id leaves, its children's creator is committed, and all others stay
abbrev pub after_commit : ℕ → ℕ → ℕ → Option Task → Option Task
after_commit id n k None = None
after_commit id n k (Some task) =
    if k == id then None else Some (record task { creator = creator_after id n task.creator })

-- a commit: the least task, which is finished, leaves; its entry joins the journal and its bytes the output, and
-- the levels of its key are the path
pub record Commits (old new : View) : Type 0 where
  pub id : ℕ
  pub task : Task
  pub least : IsLeastTask old id task
  pub finished_is : task.status ≡ status.Finished
  pub turn : ℕ
  pub index : ℕ
  pub creator : task.creator ≡ Committed turn index
  pub each : (k : ℕ) → task_at new k ≡ after_commit id (length old.history + 1) k (task_at old k)
  pub history : new.history
      ≡ old.history ++ record {
        name = record { creator = turn; index = index };
        depth = depth_of task;
        ts = task.key.ts;
      } ∷ []
  pub output : new.output ≡ old.output ++ task.bytes
  pub path : new.path ≡ task.key.domain ++ own_level task ∷ []
  pub queues : new.queues ≡ map (ids_but id) old.queues
  pub finished : new.finished ≡ map (ids_but id) old.finished
  pub frame : new ≡ record old {
    tasks = new.tasks;
    history = new.history;
    output = new.output;
    path = new.path;
    queues = new.queues;
    finished = new.finished;
  }
