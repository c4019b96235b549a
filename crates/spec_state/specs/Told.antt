-- The reports of the tasks that an event aborts, and of those that it spills.
use Rattle.std.specs.Prelude.{◌≡◌, ◌≢◌, ◌↔◌, ℕ, Bool, false, List, AllPairs, Contains, Some, None, length, map}
use Rattle.std.specs.Prelude.{count_by, is_some}
use Rattle.std.specs.declared.option.Option.{Option}
use Rattle.abort_cascade.specs.Cascade.{Marked}
use Rattle.undo_log.specs.declared.access.Access.{Access}
use Rattle.spec_state.specs.declared.task.Task.{Task}
use Rattle.spec_state.specs.declared.effect.SpilledTask.{SpilledTask}
use Rattle.spec_state.specs.declared.effect.TakenTask.{TakenTask}
use Rattle.spec_state.specs.View.{View, task_at}
use Rattle.spec_state.specs.Aborts.{is_marked_creator}
use Rattle.spec_state.specs.Fronts.{name_given}
use Rattle.spec_state.specs.Groups.{live_creator}

-- the access is a store
abbrev pub is_store : Access → Bool
is_store access = is_some access.new

-- of a marked task: its id and its tile, the instructions, accesses, stores and bytes that it had made since its
-- dispatch, and that it is gone where its creator is marked
abbrev pub told_of : List Bool → ℕ → Task → TakenTask
told_of marks id task = record {
  id = record { 0 = id };
  tile = task.tile;
  used = task.core.used;
  accesses = length task.log;
  stores = count_by is_store task.log;
  bytes = length task.bytes;
  gone = is_marked_creator marks (live_creator task.creator);
}

abbrev pub told_in : List Bool → ℕ → Option Task → TakenTask
told_in marks id None =
    record { id = record { 0 = id }; tile = 0; used = 0; accesses = 0; stores = 0; bytes = 0; gone = false }
told_in marks id (Some task) = told_of marks id task

-- of the task of this id
abbrev pub told_at : View → List Bool → ℕ → TakenTask
told_at view marks id = told_in marks id (task_at view id)

-- exactly the marked tasks are reported, each once, as they were before
pub record TellsBack (old : View) (marks : List Bool) (told : List TakenTask) : Type 0 where
  pub ids : List ℕ
  pub exact : (id : ℕ) → Contains ids id ↔ Marked marks id
  pub once : AllPairs (λ a b. a ≢ b) ids
  pub told_are : told ≡ map (told_at old marks) ids

-- of a task that is spilled: its id, and the name that its creator gives, where so many tasks have committed
abbrev pub told_spilled_in : ℕ → ℕ → Option Task → SpilledTask
told_spilled_in commits id None = record { id = record { 0 = id }; name = record { creator = 0; index = 0 } }
told_spilled_in commits id (Some task) = record { id = record { 0 = id }; name = name_given task.creator commits }

-- of the task of this id
abbrev pub told_spilled : View → ℕ → SpilledTask
told_spilled view id = told_spilled_in (length view.history) id (task_at view id)
