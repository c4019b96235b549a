-- The events of the least task, and how many of them there are at most up to its commit.
use Rattle.std.specs.Prelude.{◌≡◌, ◌⊎◌, ℕ, zero, suc, true, false}
use Rattle.guest_image.specs.ImageValue.{ImageValue}
use Rattle.rv_core.specs.LegValue.{LegValue}
use Rattle.rv_core.specs.Legs.{IsLeg}
use Rattle.spec_state.specs.task_law.Advance.{Standing, rest_of_way}
use Rattle.spec_state.specs.task_law.Advance as standing
use Rattle.spec_state.specs.declared.task.Status.TheVariants.{Idle, Running, Finished}
use Rattle.spec_state.specs.declared.task.Task.{Task}
use Rattle.spec_state.specs.View.{View}
use Rattle.spec_state.specs.Least.{IsLeastTask, IsLeastSpilled}
use Rattle.event_def.specs.declared.event.Advance.{Advance}
use Rattle.event_def.specs.declared.event.Advance.TheVariants as answers
use Rattle.event_def.specs.declared.event.Event.{Event}
use Rattle.event_def.specs.declared.event.Event.TheVariants as event
use Rattle.event_def.specs.declared.event.Reply.TheVariants as replies
use Rattle.event_def.specs.Book.{BookView}
use Rattle.event_def.specs.End.{HasEnd, IsOver}
use Rattle.event_def.specs.Happens.{Happens}

-- the leg from the kept core of a task, with the quantum of the settings
pub record IsLegFrom (image : ImageValue) (view : View) (task : Task) (leg : LegValue) : Type 0 where
  pub from : leg.from ≡ task.core
  pub is_leg : IsLeg image image.data_size view.settings.budget view.settings.quantum leg.from leg.to leg.steps
      leg.stop

-- the leg from the kept core of the least task, which runs on this core of its tile
pub record IsLeastLeg (image : ImageValue) (view : View) (tile core : ℕ) (leg : LegValue) : Type 0 where
  pub id : ℕ
  pub task : Task
  pub least : IsLeastTask view id task
  pub runs : task.status ≡ Running core
  pub there : task.tile ≡ tile
  pub runs_on : IsLegFrom image view task leg

-- the event for the least task: a split where it is spilled, a dispatch where it is idle, a step where it runs, and
-- a commit where it is finished
abbrev pub IsLeastEvent : {N : Type 0} → ImageValue → View → Event N → Type 0
IsLeastEvent image view (event.Split tile) = IsLeastSpilled view tile
IsLeastEvent image view (event.Dispatch tile) = (id : ℕ) × (task : Task) × IsLeastTask view id task
    × (task.status ≡ Idle) × (task.tile ≡ tile)
IsLeastEvent image view (event.Step tile core leg) = IsLeastLeg image view tile core leg
IsLeastEvent image view event.Commit = (id : ℕ) × (task : Task) × IsLeastTask view id task × (task.status ≡ Finished)
IsLeastEvent image view (event.Abort tile) = ⊥
IsLeastEvent image view (event.Coalesce tile) = ⊥

-- the event for the least task of a view whose run isn't over
pub record IsNextEvent {N : Type 0} (image : ImageValue) (view : View) (event : Event N) : Type 0 where
  pub goes_on : IsOver view → ⊥
  pub least : IsLeastEvent image view event

-- the event isn't a commit
abbrev pub IsNoCommit : {N : Type 0} → Event N → Type 0
IsNoCommit event.Commit = ⊥
IsNoCommit other = Unit {0}

-- what an advance is answered: the end of a run that is over; else, by the event for the least task, that it committed,
-- that another event was made, and how many tasks that aborted, or that memory ran out, which a stopped book answers
-- always
abbrev pub AdvanceAnswers : Type 0 → ImageValue → BookView → Advance → BookView → Type 0
AdvanceAnswers N image old (answers.Ended end) new = (old.stopped ≡ false) × HasEnd old.view end × (new ≡ old)
AdvanceAnswers N image old answers.Committed new =
    IsNextEvent {N = N} image old.view event.Commit × Happens {N = N} old event.Commit replies.Ok 0 new
AdvanceAnswers N image old (answers.Moved aborted) new =
    (event : Event N) × IsNextEvent image old.view event × IsNoCommit event × Happens old event replies.Ok aborted new
AdvanceAnswers N image old answers.Memory new =
    ((old.stopped ≡ true) × (new ≡ old))
    ⊎ ((event : Event N) × IsNextEvent image old.view event × Happens old event replies.Memory 0 new)

-- one event for the least task is made, of a book that isn't at its end
pub record Advances (N : Type 0) (image : ImageValue) (old : BookView) (aborted : ℕ) (new : BookView) : Type 0 where
  pub event : Event N
  pub next : IsNextEvent image old.view event
  pub happens : Happens old event replies.Ok aborted new

-- so many events for the least tasks, one after another
abbrev pub AdvancesBy : Type 0 → ImageValue → ℕ → BookView → BookView → Type 0
AdvancesBy N image zero old new = old ≡ new
AdvancesBy N image (suc n) old new = (mid : BookView) × (aborted : ℕ) × AdvancesBy N image n old mid
    × Advances N image mid aborted new

-- how the least task stands, or that the run is over
abbrev pub StandsSo : View → Standing → Type 0
StandsSo view standing.Over = IsOver view
StandsSo view standing.Finished = (IsOver view → ⊥) × (id : ℕ) × (task : Task) × IsLeastTask view id task
    × (task.status ≡ Finished)
StandsSo view (standing.Running used) =
    (IsOver view → ⊥) × (id : ℕ) × (task : Task) × (core : ℕ) × IsLeastTask view id task
    × (task.status ≡ Running core) × (task.core.used ≡ used)
StandsSo view standing.Idle = (IsOver view → ⊥) × (id : ℕ) × (task : Task) × IsLeastTask view id task
    × (task.status ≡ Idle)
StandsSo view standing.Spilled = (IsOver view → ⊥) × (tile : ℕ) × IsLeastSpilled view tile

-- the number that stands for what is left of the least task's way, up to and with its commit, or 1 where the run is
-- over
pub record HasRest (view : View) (left : ℕ) : Type 0 where
  pub stands : Standing
  pub stands_so : StandsSo view stands
  pub left_is : left ≡ rest_of_way view.settings.budget stands
