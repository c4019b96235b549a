use Rattle.std.proofs.Common.{◌≡◌, ◌+◌, length, take}
use Rattle.pending_list.specs.Slots.{present}
use Rattle.pending_list.proofs.list.copy.Given as goal

abbrev pub invariant-loop-slot : goal.invariant-loop-slot
invariant-loop-slot l = record {
  tasks : l.list.tasks ≡ present (take l.slot-index l.slots);
  spare : l.list.spare + length (present (take l.slot-index l.slots)) ≡ l.fn.list.spare;
}
