use Rattle.std.proofs.Common.{◌≡◌, drop, length}
use Rattle.spec_rollback.specs.Undone.{undone_down}
use Rattle.spec_rollback.proofs.undoing.undo_in_order.Given as goal

abbrev pub invariant-loop-id : goal.invariant-loop-id
invariant-loop-id l = record {
  rest : undone_down l.tasks.slots (drop l.id-index l.ids) l.memory ≡ undone_down l.tasks.slots l.ids l.initial.memory;
  size : length l.memory ≡ length l.initial.memory;
}
