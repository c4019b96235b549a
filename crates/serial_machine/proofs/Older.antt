-- Tasks that are left are as old as they were.
use Rattle.std.proofs.Common.{not, ◌<◌, ℕ, List}
use Rattle.std.proofs.lemmas.List.Elements.{All-filter}
use Rattle.task_desc.specs.declared.desc.Name.{Name}
use Rattle.pending_list.specs.declared.task.PendingTask.{PendingTask}
use Rattle.pending_list.specs.Pending.{is_named, without_name}
use Rattle.serial_machine.specs.Stack.{AreOlder}

-- where a name left, the tasks are as old
pub left-older : (turn : ℕ) (name : Name) (tasks : List PendingTask) → AreOlder turn tasks
    → AreOlder turn (without_name name tasks)
left-older turn name tasks older = All-filter (λ t. not (is_named name t)) (λ t. t.name.creator < turn) tasks older
