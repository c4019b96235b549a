use Rattle.std.proofs.Common.{◌≡◌, ◌-◌, ◌≤◌, length}
use Rattle.serial_machine.specs.Legs.{end_of_task}
use Rattle.serial_machine.proofs.running.run.Given as goal

abbrev pub invariant-legs : goal.invariant-legs
invariant-legs l = record {
  first : l.task.first ≡ l.fn.task.first;
  used : l.task.task.core.used ≤ l.budget;
  memory : length l.task.task.memory ≡ length l.fn.task.task.memory;
  same : end_of_task l.image l.budget l.ctx l.task.task ≡ end_of_task l.image l.budget l.ctx l.fn.task.task;
}

abbrev pub decreases-legs : goal.decreases-legs
decreases-legs l = l.budget - l.task.task.core.used
