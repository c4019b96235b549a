-- A task that goes from its queue into a block.
use Rattle.std.specs.Prelude.{◌≡◌, ◌≢◌, ℕ, length, map, Some, None, slice_index_or, slice_set}
use Rattle.spill_store.specs.SpilledTasks.{after_push}
use Rattle.tile_queues.specs.Queue.{ids_but}
use Rattle.spec_state.specs.declared.task.Status.TheVariants.{Idle}
use Rattle.spec_state.specs.declared.task.Task.{Task}
use Rattle.spec_state.specs.Fronts.{name_given}
use Rattle.spec_state.specs.StateValue.{Spare}
use Rattle.spec_state.specs.Tasks.{descriptor_of, spilled_as}
use Rattle.spec_state.specs.View.{View, task_at, block_at, ChangesTask}

-- the id of an idle task
pub record IsIdleTask (view : View) (id : ℕ) : Type 0 where
  pub task : Task
  pub there : task_at view id ≡ Some task
  pub idle : task.status ≡ Idle

-- a task leaves, and is pushed into the tile's block under the name that its creator gives
pub record Spills (tile id : ℕ) (old new : View) : Type 0 where
  pub task : Task
  pub there : task_at old id ≡ Some task
  pub changes : ChangesTask old new id None
  pub queues : new.queues ≡ map (ids_but id) old.queues
  pub blocks : new.blocks
      ≡ slice_set old.blocks tile (after_push (block_at old tile)
      (spilled_as (name_given task.creator (length old.history)) (descriptor_of task)))
  pub frame : new ≡ record old { tasks = new.tasks; queues = new.queues; blocks = new.blocks }

-- at most the spare pushes of this tile are others
pub record KeepsOtherSpare (tile : ℕ) (old new : Spare) : Type 0 where
  pub other_blocks : (t : ℕ) → t ≢ tile → slice_index_or new.blocks t 0 ≡ slice_index_or old.blocks t 0
  pub frame : new ≡ record old { blocks = new.blocks }
