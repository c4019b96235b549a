-- When a view is sound: an abort of all its uncommitted tasks would leave the serial machine's state after its journal.
use Rattle.std.specs.Prelude.{◌≡◌, ◌↔◌, ◌+◌, ◌^◌, ℕ, ◌<◌, ◌≤◌, [], length, map, All, Contains, Option, Some, IsSome}
use Rattle.std.specs.Prelude.{is_some, unwrap_or, slice_get}
use Rattle.fractal_vt.specs.Levels.{closed_level}
use Rattle.guest_image.specs.ImageValue.{ImageValue}
use Rattle.memory_law.specs.Chain.{IsChained}
use Rattle.order_law.specs.Ordered.{IsOrdered}
use Rattle.spec_state.specs.serial_machine.Run.{IsRun}
use Rattle.spec_state.specs.serial_machine.State.{SerialState}
use Rattle.spill_store.specs.SpilledTasks.{Spilled}
use Rattle.task_desc.specs.declared.desc.Spawn.{Spawn}
use Rattle.task_desc.specs.Record.{IsDesc}
use Rattle.task_request.specs.declared.request.Request.{Request}
use Rattle.task_request.specs.declared.request.Request.TheVariants.{End, Trap}
use Rattle.task_request.specs.Effects.{task_at_next}
use Rattle.task_request.specs.TaskState.{TaskState, task_at_start}
use Rattle.tile_queues.specs.Queue.{AreDistinct}
use Rattle.spec_state.specs.task_law.Commit.{Matches}
use Rattle.spec_state.specs.task_law.Domains.{FitsBags}
use Rattle.spec_state.specs.task_law.Logged.{CoreAsks, LoggedRun}
use Rattle.spec_state.specs.task_law.Sound.{AreSound}
use Rattle.spec_state.specs.declared.emitted.TheConstants.{MAX_EMITTED}
use Rattle.spec_state.specs.declared.numbers.TheConstants.{DISPATCH_NUMBERS}
use Rattle.spec_state.specs.declared.task.Creator.TheVariants.{Committed, Live}
use Rattle.spec_state.specs.declared.task.Status.{Status}
use Rattle.spec_state.specs.declared.task.Status.TheVariants.{Idle, Running, Trapped, Finished}
use Rattle.spec_state.specs.declared.task.Task.{Task}
use Rattle.spec_state.specs.declared.task.TaskId.{TaskId}
use Rattle.spec_state.specs.Settings.{IsValid}
use Rattle.spec_state.specs.View.{View, version_of, task_at, finished_at, cores_at}
use Rattle.spec_state.specs.Filters.{HasNotes}
use Rattle.spec_state.specs.Tasks.{Descriptor, depth_of, start_context, progress_at, idle_again, descriptor_of}
use Rattle.spec_state.specs.Tasks.{spilled_descriptor, child_descriptor}
use Rattle.spec_state.specs.Groups.{all_keyed, all_spilled, logged_tasks, bag_tasks, bags_spilled, domains_of}
use Rattle.spec_state.specs.Least.{IsHeir}
use Rattle.spec_state.specs.Queries.{IsQueued}
use Rattle.spec_state.specs.Stored.{HasCore, HasTask}

module _ (image : ImageValue) (version budget : ℕ) where
  -- its instructions from its start on led to this state; its loads found the values of its log, and its stores are
  -- those of its log
  abbrev pub RanTo : Task → TaskState → Type 0
  RanTo task =
      LoggedRun image budget image.data_size (start_context version task)
      (task_at_start version task.entry task.key.ts task.args []) task.log

  -- what the task has done so far, its loads and stores aside
  abbrev pub done_so_far : Task → TaskState
  done_so_far task = progress_at [] task.core task

  -- what stands next in the task's run asks for this
  abbrev pub AsksNext : Task → TaskState → Request → Type 0
  AsksNext task = CoreAsks image budget image.data_size (start_context version task)

  -- the task's run led to what it has done so far, and what stands next is this trap
  pub record TrapsNext (task : Task) (cause : ℕ) : Type 0 where
    pub ran : RanTo task (done_so_far task)
    pub traps : AsksNext task (done_so_far task) (Trap cause)

  -- the task's last instruction was its end call
  pub record HasEnded (task : Task) : Type 0 where
    pub before : TaskState
    pub ran : RanTo task before
    pub ends : AsksNext task before End
    pub leaves : done_so_far task ≡ task_at_next before

  -- an idle task has done nothing, and a dispatched one what its status says
  abbrev pub StandsAs : Task → Status → Type 0
  StandsAs task Idle = task ≡ idle_again version task
  StandsAs task (Running core) = IsSome task.key.tb × RanTo task (done_so_far task)
  StandsAs task (Trapped core cause) = IsSome task.key.tb × TrapsNext task cause
  StandsAs task Finished = IsSome task.key.tb × HasEnded task

-- the descriptor is that of the child that this task made at this place
pub record IsMadeBy (view : View) (id index : ℕ) (d : Descriptor) : Type 0 where
  pub creator : Task
  pub there : task_at view id ≡ Some creator
  pub spawn : Spawn
  pub made : slice_get creator.spawns index ≡ Some spawn
  pub descriptor_is : d ≡ child_descriptor creator spawn

-- the group of tasks, against the serial machine's state after the journal: the journal is no longer than it may
-- be; the output is that of the run; names are apart, families whole and spilled tasks firm; the tasks of committed
-- creators are, at each depth, the pending tasks of the bag there, and their kinds and floors are those of the
-- bags; each task has done what its status says; and each child is as its creator made it. That names are apart,
-- and those of spilled tasks as a list, is kept for the proof alone
pub record SoundTasks (image : ImageValue) (view : View) (heir : Option ℕ) (serial : SerialState) : Type 0 where
  pub few : length view.history ≤ view.settings.commits
  pub output : view.output ≡ serial.output
  pub names : AreSound (length view.history) (unwrap_or heir 0) (is_some heir) (bag_tasks view) (bags_spilled view)
  pub matches : Matches (length view.history) (bag_tasks view) (bags_spilled view) serial.stack
  pub domains : (id : ℕ) (task : Task) (turn index : ℕ) → task_at view id ≡ Some task
      → task.creator ≡ Committed turn index
      → FitsBags (domains_of task.kinds task.key.domain) serial.stack
  pub spilled_domains : (s : Spilled) → Contains (all_spilled view) s → s.desc.name.creator ≤ length view.history
      → FitsBags (domains_of s.desc.kinds s.domain) serial.stack
  pub stands : (id : ℕ) (task : Task) → task_at view id ≡ Some task
      → StandsAs image view.version view.settings.budget task task.status
  pub children : (id : ℕ) (task : Task) (creator : TaskId) (index : ℕ) → task_at view id ≡ Some task
      → task.creator ≡ Live creator index
      → IsMadeBy view creator.0 index (descriptor_of task)
  pub spilled_children : (s : Spilled) → Contains (all_spilled view) s → s.desc.name.creator ≡ length view.history + 1
      → (id : ℕ) × (heir ≡ Some id) × IsMadeBy view id s.desc.name.index (spilled_descriptor s)

-- the group of memory: for each byte the accesses of the dispatched tasks chain from the serial machine's memory to
-- the view's, and each task's filter has the notes of its log
pub record SoundMemory (view : View) (serial : SerialState) : Type 0 where
  pub chained : IsChained view.settings.line (logged_tasks view) serial.memory view.memory
  pub noted : (id : ℕ) (task : Task) → task_at view id ≡ Some task
      → HasNotes view.settings task.lines task.log

-- the group of order: the virtual times of all uncommitted tasks, the path and the next dispatch number, which is
-- at most how many there are. Kept for the proof alone: that no task has a number of the path, that keys fit and
-- the path is no longer, that timestamps of unordered domains are 0, and all that it says of spilled children
pub record SoundOrder (view : View) (heir : Option ℕ) : Type 0 where
  pub order : IsOrdered (all_keyed view heir) (map closed_level view.path) view.next
  pub numbers : view.next ≤ DISPATCH_NUMBERS

-- the group of sizes: the settings are in their ranges; each tile has its lists, of which its task queue, its commit
-- queue and its cores hold no more than they may, nor one task twice; its task queue holds its tasks, its commit queue
-- the finished ones of them, and its cores those that run or are trapped; and kinds, bytes and the descriptors of
-- spilled tasks fit. All but the bounds of the lists is kept for the proof alone
pub record SoundSizes (view : View) : Type 0 where
  pub settings : IsValid view.settings
  pub queues : length view.queues ≡ view.settings.tiles
  pub finished : length view.finished ≡ view.settings.tiles
  pub cores : length view.cores ≡ view.settings.tiles
  pub blocks : length view.blocks ≡ view.settings.tiles
  pub task_queues : All (λ ids. (length ids ≤ view.settings.task_queue) × AreDistinct ids) view.queues
  pub commit_queues : All (λ ids. (length ids ≤ view.settings.commit_queue) × AreDistinct ids) view.finished
  pub core_counts : All (λ held. length held ≡ view.settings.cores) view.cores
  pub queued_are : (tile id : ℕ) → IsQueued view tile id ↔ HasTask view tile id (λ status. Unit {0})
  pub finished_are : (tile id : ℕ)
      → Contains (finished_at view tile) id ↔ HasTask view tile id (λ status. status ≡ Finished)
  pub held_are : (tile core id : ℕ)
      → (slice_get (cores_at view tile) core ≡ Some (Some id)) ↔ HasTask view tile id (λ status. HasCore status core)
  pub kinds : (id : ℕ) (task : Task) → task_at view id ≡ Some task → task.kinds < 2 ^ depth_of task
  pub bytes : (id : ℕ) (task : Task) → task_at view id ≡ Some task → length task.bytes ≤ MAX_EMITTED
  pub spilled : (s : Spilled) → Contains (all_spilled view) s → IsDesc s.desc × (length s.domain + 1 ≡ s.desc.depth)

-- the view is sound: its journal is a run of the serial machine, the groups hold of the state that this run led to, and
-- its version is that of the image
pub record Sound (image : ImageValue) (view : View) : Type 0 where
  pub serial : SerialState
  pub is_run : IsRun image view.settings.budget view.history serial
  pub heir : Option ℕ
  pub is_heir : IsHeir view heir
  pub tasks : SoundTasks image view heir serial
  pub memory : SoundMemory view serial
  pub order : SoundOrder view heir
  pub sizes : SoundSizes view
  pub version : view.version ≡ version_of image

-- the new view is sound, against the same state of the serial machine
abbrev pub StaysSound : (image : ImageValue) (old : View) → Sound image old → View → Type 0
StaysSound image old sound new = (now : Sound image new) × (now.serial ≡ sound.serial)
