use Rattle.std.proofs.Common.{◌≡◌, ◌≤◌, ◌-◌, ◌++◌, drop, length, map, filter}
use Rattle.std.specs.List.{enumerate_from}
use Rattle.pending_list.specs.Pending.{AllBefore}
use Rattle.serial_machine.specs.Turn.{child, is_for}
use Rattle.serial_machine.proofs.stack.join.Given as goal

abbrev pub invariant-loop-index : goal.invariant-loop-index
invariant-loop-index l = record {
  tasks : l.tasks.tasks ++ map (child l.owner) (filter (is_for l.place) (enumerate_from l.index (drop l.index l.spawns)))
      ≡ l.fn.tasks.tasks ++ map (child l.owner) (filter (is_for l.place) (enumerate_from 0 l.spawns));
  spare : length l.spawns - l.index ≤ l.tasks.spare;
  before : AllBefore (record { creator = l.owner; index = l.index }) l.tasks.tasks;
}
