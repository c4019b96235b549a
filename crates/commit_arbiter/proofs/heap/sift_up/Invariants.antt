use Rattle.std.proofs.Common.{◌≡◌, ◌<◌, length}
use Rattle.std.specs.List.Sorted.{IsPermutation}
use Rattle.commit_arbiter.specs.Heap.{IsHeapUp, upto}
use Rattle.commit_arbiter.specs.Slots.{candidate_at}
use Rattle.commit_arbiter.proofs.heap.sift_up.Given as goal

abbrev pub invariant-loop-at : goal.invariant-loop-at
invariant-loop-at l = record {
  within : l.at < length l.slots.candidates;
  heap : IsHeapUp upto (candidate_at l.slots.candidates) (length l.slots.candidates) l.at;
  capacity : l.slots.capacity ≡ l.initial.slots.capacity;
  permuted : IsPermutation l.initial.slots.candidates l.slots.candidates;
}

abbrev pub decreases-loop-at : goal.decreases-loop-at
decreases-loop-at l = l.at
