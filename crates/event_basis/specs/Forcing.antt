-- What an event forces leaves: a sound view like the one before, in which who asked asks still, a task queue has a free
-- place, or a core is free.
use Rattle.std.specs.Prelude.{◌≡◌, ℕ, length, Some}
use Rattle.guest_image.specs.ImageValue.{ImageValue}
use Rattle.rv_core.specs.LegValue.{LegValue}
use Rattle.event_law.specs.spec_state.declared.task.Status.TheVariants.{Running}
use Rattle.event_law.specs.spec_state.declared.task.Task.{Task}
use Rattle.event_law.specs.spec_state.View.{View, task_at}
use Rattle.event_law.specs.spec_state.Least.{IsLeastTask}
use Rattle.event_law.specs.spec_state.Queries.{IsFreeCore, IsLeastIdle}
use Rattle.event_law.specs.spec_state.Changes.{TakesLeg, request_of}
use Rattle.event_law.specs.spec_state.Room.{Asker, Enqueuer, Splitter, QueueHasRoom}
use Rattle.event_law.specs.spec_law.Sound.{Sound}

-- the view has the settings and the version of another, and as much memory
pub record IsLike (old mid : View) : Type 0 where
  pub settings : mid.settings ≡ old.settings
  pub version : mid.version ≡ old.version
  pub size : length mid.memory ≡ length old.memory

-- the view is sound and like the one before; the task that took a leg is as it was, takes it still and asks for the
-- same at its end
pub record TakesStill (image : ImageValue) (tile core : ℕ) (leg : LegValue) (id : ℕ) (task : Task)
    (old mid : View) : Type 0 where
  pub sound : Sound image mid
  pub like : IsLike old mid
  pub there : task_at mid id ≡ Some task
  pub takes : TakesLeg mid tile core leg id task
  pub asks : request_of mid task leg ≡ request_of old task leg

-- the view is sound and like the one before, and the task queue of the tile has a free place
pub record LeavesRoom (image : ImageValue) (tile : ℕ) (old mid : View) : Type 0 where
  pub sound : Sound image mid
  pub like : IsLike old mid
  pub free : QueueHasRoom mid tile

-- the view is sound and like the one before, this task is the least one still and the least idle one of its tile, and
-- a core is free there
pub record LeavesCore (image : ImageValue) (tile id : ℕ) (task : Task) (old mid : View) : Type 0 where
  pub sound : Sound image mid
  pub like : IsLike old mid
  pub least : IsLeastTask mid id task
  pub idle : IsLeastIdle mid tile id task
  pub core : ℕ
  pub free : IsFreeCore mid tile core

-- the view is sound and like the one before, this task is the least idle one of its tile still, and a core is free
-- there
pub record LeavesIdle (image : ImageValue) (tile id : ℕ) (task : Task) (old mid : View) : Type 0 where
  pub sound : Sound image mid
  pub like : IsLike old mid
  pub idle : IsLeastIdle mid tile id task
  pub core : ℕ
  pub free : IsFreeCore mid tile core

-- where a task asks for room, it runs
abbrev pub RunsIfTask : View → Asker → Type 0
RunsIfTask view (Enqueuer id) =
    (task : Task) × (core : ℕ) × (task_at view id ≡ Some task) × (task.status ≡ Running core)
RunsIfTask view Splitter = Unit {0}
