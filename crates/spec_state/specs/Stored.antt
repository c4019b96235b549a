-- What the type of a state keeps of its tasks and lists, so that what reads or changes a state has it for each state.
use Rattle.std.specs.Prelude.{◌≡◌, ◌↔◌, ◌<◌, ◌≤◌, ◌^◌, ℕ, List, [], Contains, Option, Some, None, IsSome}
use Rattle.std.specs.Prelude.{is_some, length, slice_get, slice_index_or}
use Rattle.commit_arbiter.specs.declared.candidate.Candidate.{Candidate}
use Rattle.undo_log.specs.Undo.{AllAccessible}
use Rattle.task_desc.specs.declared.calls.TheConstants.{MAX_CHILDREN, MAX_DEPTH}
use Rattle.spec_state.specs.declared.task.Creator.TheVariants.{Committed}
use Rattle.spec_state.specs.declared.task.Status.{Status}
use Rattle.spec_state.specs.declared.task.Status.TheVariants.{Idle, Running, Trapped, Finished}
use Rattle.spec_state.specs.declared.task.Task.{Task}
use Rattle.spec_state.specs.View.{View, task_at, finished_at, cores_at}
use Rattle.spec_state.specs.Tasks.{depth_of, is_dispatched, kept_core}
use Rattle.spec_state.specs.Queries.{IsQueued}

-- the status has this core
abbrev pub HasCore : Status → ℕ → Type 0
HasCore Idle core = ⊥
HasCore (Running held) core = held ≡ core
HasCore (Trapped held cause) core = held ≡ core
HasCore Finished core = ⊥

-- the task of this id, which is in this tile, has a status of this kind
abbrev pub HasTask : View → ℕ → ℕ → (Status → Type 0) → Type 0
HasTask view tile id kind = (task : Task) × (task_at view id ≡ Some task) × (task.tile ≡ tile) × kind task.status

-- a task by itself, in a state of so many bytes of data and so many commits: its depth, the kinds of its domains and
-- its children are within their bounds, its accesses lie in the data, it has a dispatch number exactly where it
-- keeps a core, and the number of a committed creator is at most that of the commits
pub record IsWellFormed (size commits : ℕ) (task : Task) : Type 0 where
  pub depth : depth_of task ≤ MAX_DEPTH
  pub kinds : task.kinds < 2 ^ depth_of task
  pub inner : IsSome task.sub → depth_of task < MAX_DEPTH
  pub children : length task.spawns ≤ MAX_CHILDREN
  pub accesses : AllAccessible size task.log
  pub dispatched : is_dispatched task ≡ is_some (kept_core task.status task.core)
  pub turn : (turn index : ℕ) → task.creator ≡ Committed turn index → turn ≤ commits

-- each task is in the queue of its tile, and in its commit queue or on its core as its status says, and these lists
-- contain nothing else; each task is well formed; the data has its size
pub record IsStored (size : ℕ) (view : View) : Type 0 where
  pub queued_are : (tile id : ℕ) → IsQueued view tile id ↔ HasTask view tile id (λ status. Unit {0})
  pub finished_are : (tile id : ℕ)
      → Contains (finished_at view tile) id ↔ HasTask view tile id (λ status. status ≡ Finished)
  pub held_are : (tile core id : ℕ)
      → (slice_get (cores_at view tile) core ≡ Some (Some id)) ↔ HasTask view tile id (λ status. HasCore status core)
  pub tasks : (id : ℕ) (task : Task) → task_at view id ≡ Some task → IsWellFormed size (length view.history) task
  pub memory : length view.memory ≡ size

-- the lists by tile hold tasks of their tile alone
abbrev pub AreTheirs : List (Option Task) → List (List ℕ) → Type 0
AreTheirs tasks lists =
    (tile id : ℕ) → Contains (slice_index_or lists tile []) id
    → (task : Task) × (slice_index_or tasks id None ≡ Some task) × (task.tile ≡ tile)

-- the candidate of a task in the index, with its arrival number
abbrev pub candidate_of : List ℕ → ℕ → Task → Candidate
candidate_of arrivals id task =
    record { key = task.key; tile = task.tile; arrival = slice_index_or arrivals id 0; id = id }

-- the index holds these tasks and no other, under arrival numbers that rise along each queue and are less than the
-- next one
pub record IsIndexed (tasks : List (Option Task)) (queues : List (List ℕ)) (arrivals : List ℕ) (next : ℕ)
    (candidates : List Candidate) : Type 0 where
  pub all : (id : ℕ) (task : Task) → slice_index_or tasks id None ≡ Some task
      → Contains candidates (candidate_of arrivals id task)
  pub each : (candidate : Candidate) → Contains candidates candidate
      → (task : Task) × (slice_index_or tasks candidate.id None ≡ Some task)
      × (candidate ≡ candidate_of arrivals candidate.id task)
  pub early : (tile id : ℕ) → Contains (slice_index_or queues tile []) id → slice_index_or arrivals id 0 < next
  pub rising : (tile p q a b : ℕ) → p < q → slice_get (slice_index_or queues tile []) p ≡ Some a
      → slice_get (slice_index_or queues tile []) q ≡ Some b
      → slice_index_or arrivals a 0 < slice_index_or arrivals b 0

-- the ids of a list have arrival numbers below this one
abbrev pub AreBelow : List ℕ → List ℕ → ℕ → Type 0
AreBelow arrivals ids bound = (id : ℕ) → Contains ids id → slice_index_or arrivals id 0 < bound

-- only the numbers of these ids have changed
abbrev pub KeepsOthers : List ℕ → List ℕ → List ℕ → Type 0
KeepsOthers ids old new = (id : ℕ) → (Contains ids id → ⊥) → slice_index_or new id 0 ≡ slice_index_or old id 0
