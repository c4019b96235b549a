use Rattle.std.proofs.Common.{◌≡◌, ◌≤◌, ◌-◌, ◌++◌, drop, length, map}
use Rattle.std.specs.List.{enumerate_from}
use Rattle.pending_list.specs.Pending.{AllBefore}
use Rattle.serial_machine.specs.Run.{image_task}
use Rattle.serial_machine.proofs.serial.first_tasks.Given as goal

abbrev pub invariant-loop-index : goal.invariant-loop-index
invariant-loop-index l = record {
  tasks : l.found.tasks ++ map (image_task l.kind) (enumerate_from l.index (drop l.index l.tasks))
      ≡ map (image_task l.kind) (enumerate_from 0 l.tasks);
  spare : length l.tasks - l.index ≤ l.found.spare;
  before : AllBefore (record { creator = 0; index = l.index }) l.found.tasks;
}
