-- Which tasks an abort takes, and what it leaves (Jeffrey et al. 2015, section 4.5: selective aborts).
use Rattle.std.specs.Prelude.{◌≡◌, ◌⊎◌, ◌↔◌, ℕ, ◌≤◌, not, Bool, true, false, List, [], length, map, filter}
use Rattle.std.specs.Prelude.{replicate, count_by, Option, Some, None, slice_index_or, if◌then◌else◌}
use Rattle.abort_cascade.specs.Cascade.{IsLeastClosed}
pub use Rattle.abort_cascade.specs.Cascade.{OnlyNode}
use Rattle.line_table.specs.Note.{Meet}
use Rattle.memory_law.specs.Tasks.{IsByKey, undone_set}
use Rattle.task_law.specs.Room.{queue_after}
use Rattle.spec_state.specs.declared.task.Task.{Task}
use Rattle.spec_state.specs.View.{View, task_at}
use Rattle.spec_state.specs.Filters.{has_stored, has_touched}
use Rattle.spec_state.specs.Tasks.{is_dispatched, idle_again}
use Rattle.spec_state.specs.Groups.{logged_tasks, room_tasks, live_creator}
use Rattle.spec_state.specs.Queries.{IsLater}

-- the second task is a child of the first
pub record IsChildOf (view : View) (a b : ℕ) : Type 0 where
  pub child : Task
  pub there : task_at view b ≡ Some child
  pub made_by : live_creator child.creator ≡ Some a

-- the first task is dispatched, and the second is a later dispatched one whose filter reports a line as touched to
-- which the first one's log has a store
pub record ReadsFrom (view : View) (a b : ℕ) : Type 0 where
  pub writer : Task
  pub there : task_at view a ≡ Some writer
  pub dispatched : is_dispatched writer ≡ true
  pub reader : Task
  pub later : IsLater view writer b reader
  pub meets : Meet (has_stored view.settings.line writer) (has_touched reader)

-- what is aborted with a task: its children, and the later tasks that may have read or overwritten what it wrote
abbrev pub PullsInView : View → ℕ → ℕ → Type 0
PullsInView view a b = IsChildOf view a b ⊎ ReadsFrom view a b

-- the id is marked
abbrev pub is_marked : List Bool → ℕ → Bool
is_marked marks id = slice_index_or marks id false

-- the marked tasks are the union of the cascades of these tasks: the least set that contains them and, with each
-- member, all that is aborted with it
pub record IsCascade (view : View) (firsts : ℕ → Type 0) (marks : List Bool) : Type 0 where
  pub pull : ℕ → ℕ → Bool
  pub pulls : (a b : ℕ) → (pull a b ≡ true) ↔ PullsInView view a b
  pub size : length view.tasks ≤ length marks
  pub least : IsLeastClosed (length marks) pull firsts marks

-- this memory results from rolling back the stores of a set of tasks: the tasks in descending order of their keys, and
-- of each the last store first
pub record IsUndone (view : View) (set : ℕ → Bool) (memory : List ℕ) : Type 0 where
  pub ids : List ℕ
  pub by_key : IsByKey (logged_tasks view) ids
  pub memory_is : memory ≡ undone_set set (logged_tasks view) ids view.memory

-- the creator is marked
abbrev pub is_marked_creator : List Bool → Option ℕ → Bool
is_marked_creator marks None = false
is_marked_creator marks (Some id) = is_marked marks id

-- an unmarked task stays, a marked one leaves with its creator, and any other is idle again, in its own place
abbrev pub taken_back : ℕ → List Bool → ℕ → Option Task → Option Task
taken_back version marks id None = None
taken_back version marks id (Some task) =
    if is_marked marks id
    then (if is_marked_creator marks (live_creator task.creator) then None else Some (idle_again version task))
    else Some task

-- the core is free where the task that it holds is marked
abbrev pub freed_core : List Bool → Option ℕ → Option ℕ
freed_core marks None = None
freed_core marks (Some id) = if is_marked marks id then None else Some id

-- the cascades of these tasks are aborted, and their number is `aborted`: memory is as they found it, a member leaves
-- its core or its commit queue, and one whose creator is a member leaves its task queue; all else stays
pub record Aborts (firsts : ℕ → Type 0) (old : View) (aborted : ℕ) (new : View) : Type 0 where
  pub marks : List Bool
  pub cascade : IsCascade old firsts marks
  pub counted : aborted ≡ count_by (λ mark. mark) marks
  pub each : (id : ℕ) → task_at new id ≡ taken_back old.version marks id (task_at old id)
  pub memory : IsUndone old (is_marked marks) new.memory
  pub queues : new.queues ≡ map (queue_after (room_tasks new)) old.queues
  pub finished : new.finished ≡ map (filter (λ id. not (is_marked marks id))) old.finished
  pub cores : new.cores ≡ map (map (freed_core marks)) old.cores
  pub frame : new
      ≡ record old {
        tasks = new.tasks;
        memory = new.memory;
        queues = new.queues;
        finished = new.finished;
        cores = new.cores;
      }

-- all uncommitted tasks are aborted: memory is as they found it, none is left, queued, finished, on a core or spilled,
-- and all else stays
pub record UndoesAll (old new : View) : Type 0 where
  pub none : (id : ℕ) → task_at new id ≡ None
  pub memory : IsUndone old (λ id. true) new.memory
  pub frame : new ≡ record old {
    tasks = new.tasks;
    memory = new.memory;
    queues = replicate old.settings.tiles [];
    finished = replicate old.settings.tiles [];
    cores = replicate old.settings.tiles (replicate old.settings.cores None);
    blocks = replicate old.settings.tiles [];
  }
