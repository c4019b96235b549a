-- What contracts see of a state.
use Rattle.std.specs.Prelude.{◌≡◌, ◌≢◌, ℕ, ◌∷◌, ◌++◌, List, [], map, length, Option, None, option_map}
use Rattle.std.specs.Prelude.{slice_index_or, slice_set}
use Rattle.fractal_vt.specs.declared.level.Level.{Level}
use Rattle.guest_image.specs.ImageValue.{ImageValue}
use Rattle.run_journal.specs.declared.journal.Entry.{Entry}
use Rattle.spill_store.specs.SpilledTasks.{Spilled}
use Rattle.spec_state.specs.declared.settings.Settings.{Settings}
use Rattle.spec_state.specs.declared.task.Task.{Task}
use Rattle.spec_state.specs.declared.task.TaskId.{TaskId}

-- the version of the image; the settings; the uncommitted tasks that aren't spilled, by id; the data memory with
-- the stores of all dispatched tasks; the committed tasks and their bytes; the next dispatch number; the levels of
-- the key of the task that committed last; and, by tile, the ids in its task queue and in its commit queue in order
-- of arrival, the id that each core holds, and the spilled tasks, as their pushes left them
pub record View : Type 0 where
  pub version : ℕ
  pub settings : Settings
  pub tasks : List (Option Task)
  pub memory : List ℕ
  pub history : List Entry
  pub output : List ℕ
  pub next : ℕ
  pub path : List Level
  pub queues : List (List ℕ)
  pub finished : List (List ℕ)
  pub cores : List (List (Option ℕ))
  pub blocks : List (List Spilled)

-- the version of an image, on which the starts and the contexts of its tasks depend
abbrev pub version_of : ImageValue → ℕ
version_of image = image.version

-- the ids that the cores of a tile hold
abbrev pub core_ids : List (Option TaskId) → List (Option ℕ)
core_ids cores = map (option_map (λ id. id.0)) cores

-- the task of this id
abbrev pub task_at : View → ℕ → Option Task
task_at view id = slice_index_or view.tasks id None

-- the task queue of a tile
abbrev pub queue_at : View → ℕ → List ℕ
queue_at view tile = slice_index_or view.queues tile []

-- the commit queue of a tile
abbrev pub finished_at : View → ℕ → List ℕ
finished_at view tile = slice_index_or view.finished tile []

-- the cores of a tile
abbrev pub cores_at : View → ℕ → List (Option ℕ)
cores_at view tile = slice_index_or view.cores tile []

-- the block of a tile
abbrev pub block_at : View → ℕ → List Spilled
block_at view tile = slice_index_or view.blocks tile []

-- how many tasks each task queue holds
abbrev pub loads : View → List ℕ
loads view = map length view.queues

-- the task queues with one more id, the last one of this tile
abbrev pub queued_last : View → ℕ → ℕ → List (List ℕ)
queued_last view tile id = slice_set view.queues tile (queue_at view tile ++ id ∷ [])

-- this id has the task `now`, or none, and all other ids have what they had
pub record ChangesTask (old new : View) (id : ℕ) (now : Option Task) : Type 0 where
  pub changed : task_at new id ≡ now
  pub others : (k : ℕ) → k ≢ id → task_at new k ≡ task_at old k
