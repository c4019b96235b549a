-- A view before the first task, and the creation of a task.
use Rattle.std.specs.Prelude.{◌≡◌, ◌<◌, ℕ, List, [], Option, replicate, Some, None}
use Rattle.guest_image.specs.ImageValue.{ImageValue}
use Rattle.task_law.specs.serial_machine.Run.{opening_memory}
use Rattle.spill_store.specs.SpilledTasks.{Spilled}
use Rattle.task_desc.specs.declared.desc.Desc.{Desc}
use Rattle.tile_queues.specs.Queue.{QueueValue}
use Rattle.spec_state.specs.declared.settings.Settings.{Settings}
use Rattle.spec_state.specs.declared.task.Task.{Task}
use Rattle.spec_state.specs.Fits.{ids_in}
use Rattle.spec_state.specs.View.{View, version_of, task_at, queued_last, ChangesTask}

-- the view without a task: the initial data, and nothing else
pub record IsEmptyView (image : ImageValue) (settings : Settings) (view : View) : Type 0 where
  pub none : (id : ℕ) → task_at view id ≡ None
  pub frame : view ≡ record {
    version = version_of image;
    settings = settings;
    tasks = view.tasks;
    memory = opening_memory image;
    history = [];
    output = [];
    next = 0;
    path = [];
    queues = replicate settings.tiles [];
    finished = replicate settings.tiles [];
    cores = replicate settings.tiles (replicate settings.cores None);
    blocks = replicate settings.tiles [];
  }

-- the lists of all tiles hold no task
pub record HoldNothing (settings : Settings) (queues finished : List QueueValue) (cores : List (List (Option ℕ)))
    (blocks : List (List Spilled)) : Type 0 where
  pub queues_are : ids_in queues ≡ replicate settings.tiles []
  pub finished_are : ids_in finished ≡ replicate settings.tiles []
  pub cores_are : cores ≡ replicate settings.tiles (replicate settings.cores None)
  pub blocks_are : blocks ≡ replicate settings.tiles []

-- the descriptor is that of a task of the image: its creator is the image, and its domain the root, of one kind;
-- so what the type keeps of kinds and commit numbers holds of it
pub record DescIsOfImage (desc : Desc) : Type 0 where
  pub by_image : desc.name.creator ≡ 0
  pub kinds : desc.kinds < 2

-- a task gets an id that no task had, as the last one of its tile's task queue
pub record Adds (id : ℕ) (task : Task) (old new : View) : Type 0 where
  pub vacant : task_at old id ≡ None
  pub changes : ChangesTask old new id (Some task)
  pub queues : new.queues ≡ queued_last old task.tile id
  pub frame : new ≡ record old { tasks = new.tasks; queues = new.queues }
