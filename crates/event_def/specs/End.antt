-- When a run is over, and how it ended.
use Rattle.std.specs.Prelude.{◌≡◌, ◌≢◌, ℕ, length}
use Rattle.run_journal.specs.declared.end.End.{End}
use Rattle.run_journal.specs.declared.end.End.TheVariants as ends
use Rattle.task_desc.specs.declared.desc.Name.{Name}
use Rattle.spec_state.specs.declared.task.Creator.TheVariants.{Committed}
use Rattle.spec_state.specs.declared.task.Status.TheVariants.{Trapped}
use Rattle.spec_state.specs.declared.task.Task.{Task}
use Rattle.spec_state.specs.View.{View}
use Rattle.spec_state.specs.Least.{IsAllCommitted, IsLeastTask}

-- the least task is trapped, with this name, cause and pc
pub record LeastIsTrapped (view : View) (name : Name) (cause pc : ℕ) : Type 0 where
  pub id : ℕ
  pub task : Task
  pub core : ℕ
  pub least : IsLeastTask view id task
  pub trapped : task.status ≡ Trapped core cause
  pub named : task.creator ≡ Committed name.creator name.index
  pub pc_is : task.core.pc ≡ pc

-- the run is over, and ended so, in this order: no task is uncommitted; as many have committed as may; the least
-- task is trapped
abbrev pub HasEnd : View → End → Type 0
HasEnd view ends.Normal = IsAllCommitted view
HasEnd view ends.Limit = (IsAllCommitted view → ⊥) × (length view.history ≡ view.settings.commits)
HasEnd view (ends.Trap name cause pc) = (length view.history ≢ view.settings.commits)
    × LeastIsTrapped view name cause pc
HasEnd view ends.Unfinished = ⊥

-- the run is over
abbrev pub IsOver : View → Type 0
IsOver view = (end : End) × HasEnd view end
