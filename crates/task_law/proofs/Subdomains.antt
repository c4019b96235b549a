-- A task at the greatest depth makes no subdomain.
use Rattle.std.proofs.Common.{◌≡◌, subst, ℕ, List}
use Rattle.guest_image.specs.ImageValue.{ImageValue}
use Rattle.pending_list.specs.declared.task.PendingTask.{PendingTask}
use Rattle.run_law.specs.serial_machine.BagValue.{BagValue}
use Rattle.run_law.specs.serial_machine.State.{SerialState}
use Rattle.run_law.specs.serial_machine.Legs.{SubFits}
use Rattle.run_law.specs.serial_machine.TaskRun.{Done}
use Rattle.run_law.specs.serial_machine.Turn.{run_in_bag, context_in_bag}
use Rattle.run_law.proofs.Below.serial_machine.Proved.{EndHolds, task_run-sub_fits}
use Rattle.task_request.specs.TaskState.{TaskState}

-- the subdomain of a task that is done
pub done-fits : (image : ImageValue) (budget : ℕ) (s : SerialState) (bag : BagValue) (outer : List BagValue) (task : PendingTask) (done : TaskState)
    → run_in_bag image budget s bag outer task ≡ Done done → SubFits bag.depth done.sub
done-fits image budget s bag outer task done ran = subst (EndHolds (λ t. SubFits bag.depth t.sub)) ran
    (task_run-sub_fits image budget (context_in_bag image.version bag outer task) task.entry task.args s.memory)
