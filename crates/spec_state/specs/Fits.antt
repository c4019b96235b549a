-- What the type of a state keeps.
use Rattle.std.specs.Prelude.{◌≡◌, ◌≤◌, ◌*◌, ℕ, List, All, Option, is_some, count_by, sum_by, map, length}
use Rattle.fractal_vt.specs.declared.level.Level.{Level}
use Rattle.run_journal.specs.declared.journal.Entry.{Entry}
use Rattle.spill_store.specs.SpilledTasks.{Spilled}
use Rattle.tile_queues.specs.Queue.{QueueValue}
use Rattle.spec_state.specs.declared.settings.Settings.{Settings}
use Rattle.spec_state.specs.declared.task.Task.{Task}
use Rattle.spec_state.specs.declared.numbers.TheConstants.{MAX_NUMBERS_IN_USE}
use Rattle.spec_state.specs.Settings.{IsValid}
use Rattle.spec_state.specs.View.{View}

-- how many tasks may commit, and those that have
pub record HistoryValue : Type 0 where
  pub limit : ℕ
  pub entries : List Entry

-- the ids that each queue holds
abbrev pub ids_in : List QueueValue → List (List ℕ)
ids_in queues = map (λ queue. queue.ids) queues

-- the view of these parts
abbrev pub view_of_parts : ℕ → Settings → List (Option Task) → List ℕ → List Entry → List ℕ → ℕ → List Level
    → List QueueValue → List QueueValue → List (List (Option ℕ)) → List (List Spilled) → View
view_of_parts version settings tasks memory history output next path queues finished cores blocks = record {
  version = version;
  settings = settings;
  tasks = tasks;
  memory = memory;
  history = history;
  output = output;
  next = next;
  path = path;
  queues = ids_in queues;
  finished = ids_in finished;
  cores = cores;
  blocks = blocks;
}

-- the settings are valid, with these limits, and the journal has memory for all commits
pub record HasLimits (budget commits : ℕ) (settings : Settings) (limit : ℕ) : Type 0 where
  pub valid : IsValid settings
  pub budget_is : settings.budget ≡ budget
  pub commits_is : settings.commits ≡ commits
  pub limit_is : limit ≡ commits

-- each tile has its queues, of the capacities of the settings, its cores and its block
pub record HasTiles (settings : Settings) (queues finished : List QueueValue) (cores blocks : ℕ) : Type 0 where
  pub queue_count : length queues ≡ settings.tiles
  pub finished_count : length finished ≡ settings.tiles
  pub core_lists : cores ≡ settings.tiles
  pub block_count : blocks ≡ settings.tiles
  pub task_queues : All (λ queue. queue.capacity ≡ settings.task_queue) queues
  pub commit_queues : All (λ queue. queue.capacity ≡ settings.commit_queue) finished

-- how many ids the queues hold
abbrev pub queued_count : List QueueValue → ℕ
queued_count queues = sum_by (λ queue. length queue.ids) queues

-- how many slots a state has for tasks; how many candidates its index holds, and for how many it has memory; how
-- many marks, places among the members and arrival numbers it keeps; and for how many dispatch numbers their table
-- has memory
pub record SlotCounts : Type 0 where
  pub slots : ℕ
  pub indexed : ℕ
  pub capacity : ℕ
  pub marks : ℕ
  pub members : ℕ
  pub arrivals : ℕ
  pub numbers : ℕ

-- there is a slot and a candidate for each place of the task queues, of which no more are in use than ids are
-- queued; each slot has a mark, a place among the members and an arrival number, and the table of numbers has
-- memory for all that may be in use
pub record HasSlots (settings : Settings) (tasks : List (Option Task)) (queues : List QueueValue) (counts : SlotCounts)
    : Type 0 where
  pub enough : settings.tiles * settings.task_queue ≤ counts.slots
  pub used : count_by is_some tasks ≡ queued_count queues
  pub short : All (λ queue. length queue.ids ≤ settings.task_queue) queues
  pub index : counts.capacity ≡ settings.tiles * settings.task_queue
  pub indexed_are : counts.indexed ≤ queued_count queues
  pub marks : counts.marks ≡ counts.slots
  pub members : counts.members ≡ counts.slots
  pub arrivals : counts.arrivals ≡ counts.slots
  pub numbers : MAX_NUMBERS_IN_USE ≤ counts.numbers
