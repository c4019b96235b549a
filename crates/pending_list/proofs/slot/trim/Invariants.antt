use Rattle.std.proofs.Common.{◌≡◌, ◌≤◌, false, length, take, ℕ, vec_capacity}
use Rattle.pending_list.specs.Slots.{slot_at}
use Rattle.pending_list.proofs.slot.trim.Given as goal

abbrev pub invariant-loop-slot : goal.invariant-loop-slot
invariant-loop-slot l = record {
  fewer : length l.slots.items ≤ length l.fn.slots.items;
  front : l.slots.items ≡ take (length l.slots.items) l.fn.slots.items;
  vacant : (k : ℕ) → length l.slots.items ≤ k → (slot_at l.fn.slots.items k).here ≡ false;
  spare : vec_capacity l.slots ≡ vec_capacity l.fn.slots;
}

abbrev pub decreases-loop-slot : goal.decreases-loop-slot
decreases-loop-slot l = length l.slots.items
