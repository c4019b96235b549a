use Rattle.std.proofs.Common.{◌≡◌, ◌≤◌, ◌+◌, length, drop}
use Rattle.pending_list.specs.Slots.{present}
use Rattle.pending_list.proofs.slot.count.Given as goal

abbrev pub invariant-loop-slot : goal.invariant-loop-slot
invariant-loop-slot l = record {
  counted : l.many + length (present (drop l.slot-index l.slots)) ≡ length (present l.slots);
  few : l.many ≤ l.slot-index;
}
