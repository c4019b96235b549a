-- What is aborted with a task, as a test; and a list of the marked ids.
use Rattle.std.specs.Prelude.{◌≡◌, ◌↔◌, ℕ, ◌≤◌, ◌/◌, ◌==◌, ◌&&◌, ◌||◌, Bool, true, false, List, Contains, Option, None}
use Rattle.std.specs.Prelude.{Some, count_by, is_some, length, slice_index_or, take}
use Rattle.std.specs.List.{list_any}
use Rattle.std.specs.Ordering.{is_lt}
use Rattle.abort_cascade.specs.Cascade.{Marked}
use Rattle.fractal_vt.specs.Keys.{key_cmp}
use Rattle.memory_law.specs.Notes.{notes_of}
use Rattle.undo_log.specs.declared.access.Access.{Access}
use Rattle.spec_state.specs.declared.task.Task.{Task}
use Rattle.spec_state.specs.Children.{ChildrenValue, AreNoted}
use Rattle.spec_state.specs.Filters.{has_touched}
use Rattle.spec_state.specs.StateValue.{Scratch}
use Rattle.spec_state.specs.Tasks.{is_dispatched}
use Rattle.spec_state.specs.Groups.{live_creator}
use Rattle.spec_rollback.specs.declared.marking.Dispatched.{Dispatched}
use Rattle.spec_rollback.specs.Marking.{conflicts_at, StandsIn, StandTasksIn}

-- this is the creator
abbrev pub is_creator : ℕ → Option ℕ → Bool
is_creator id None = false
is_creator id (Some creator) = creator == id

-- this is a child of the task `id`
abbrev pub is_made : ℕ → Option Task → Bool
is_made id None = false
is_made id (Some task) = is_creator id (live_creator task.creator)

-- the filter of the task reports a line to which the log has a store, where a line has `size` bytes
abbrev pub tells_store : ℕ → List Access → Task → Bool
tells_store size log reader = list_any (λ note. note.write && has_touched reader note.line) (notes_of size log)

-- both are dispatched, and the second is later and its filter reports a line to which the first one's log has a store,
-- where a line has `size` bytes
abbrev pub reads_from : ℕ → Task → Task → Bool
reads_from size writer reader =
    is_dispatched writer && is_dispatched reader && is_lt (key_cmp writer.key reader.key)
    && tells_store size writer.log reader

-- the same, where there is a first task
abbrev pub reads_from_some : ℕ → Option Task → Task → Bool
reads_from_some size None reader = false
reads_from_some size (Some writer) reader = reads_from size writer reader

-- the second task is aborted with the first, which has this id
abbrev pub pulls_task : ℕ → ℕ → Option Task → Option Task → Bool
pulls_task size id first None = false
pulls_task size id first (Some second) =
    is_creator id (live_creator second.creator) || reads_from_some size first second

-- of these tasks `b` is aborted with `a`, where a line has `size` bytes
abbrev pub pull_in : ℕ → List (Option Task) → ℕ → ℕ → Bool
pull_in size tasks a b = pulls_task size a (slice_index_or tasks a None) (slice_index_or tasks b None)

-- of these tasks `b` is a child of `a`
abbrev pub is_made_by : List (Option Task) → ℕ → ℕ → Bool
is_made_by tasks a b = is_made a (slice_index_or tasks b None)

-- a store by this access of the task conflicts with what has this id, where a line has so many bytes
abbrev pub store_conflicts_at : ℕ → List (Option Task) → Task → Access → ℕ → Bool
store_conflicts_at size tasks writer access id =
    is_some access.new && conflicts_at tasks writer (access.offset / size) true id

-- one by some access of this log
abbrev pub some_store_conflicts_at : ℕ → List (Option Task) → Task → List Access → ℕ → Bool
some_store_conflicts_at size tasks writer log id =
    list_any (λ access. store_conflicts_at size tasks writer access id) log

-- one by some access of the log of the task, where there is one and it is dispatched
abbrev pub is_read_from : ℕ → List (Option Task) → Option Task → ℕ → Bool
is_read_from size tasks None id = false
is_read_from size tasks (Some writer) id =
    is_dispatched writer && some_store_conflicts_at size tasks writer writer.log id

-- one by the task of the first id
abbrev pub is_read_at : ℕ → List (Option Task) → ℕ → ℕ → Bool
is_read_at size tasks a b = is_read_from size tasks (slice_index_or tasks a None) b

-- it is known where the children of these tasks stand, and in which tiles the dispatched ones do
pub record KnowsTasks (tasks : List (Option Task)) (children : ChildrenValue) (tiles : Dispatched) : Type 0 where
  pub noted : AreNoted tasks children
  pub queues : length tiles.finished.now ≡ length tiles.cores.now
  pub live : StandTasksIn tiles tasks
  pub dispatched : (id : ℕ) (task : Task) → slice_index_or tasks id None ≡ Some task → is_dispatched task ≡ true
      → StandsIn tiles id

-- the first so many members are the marked ids, each once
pub record ListsMarked (scratch : Scratch) (found : ℕ) : Type 0 where
  pub marked : (id : ℕ) → Marked scratch.marks id ↔ Contains (take found scratch.members) id
  pub count : found ≡ count_by (λ mark. mark) scratch.marks
  pub within : found ≤ length scratch.members
