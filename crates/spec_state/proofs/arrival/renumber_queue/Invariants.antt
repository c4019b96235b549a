use Rattle.std.proofs.Common.{◌≡◌, ◌≤◌, [], length, map, slice_index_or}
use Rattle.spec_state.proofs.Renumbered.{IsRenumbered}
use Rattle.spec_state.proofs.arrival.renumber_queue.Given as goal

abbrev pub invariant-loop-place : goal.invariant-loop-place
invariant-loop-place l =
    (let lists = map (λ queue. queue.ids) l.queues in
    IsRenumbered l.tasks.slots lists l.next (slice_index_or lists l.tile []) l.fn.arrivals.items l.arrivals.items l.index.candidates l.place)
    × (length l.index.candidates ≤ length l.fn.index.candidates)
    × (l.index.capacity ≡ l.fn.index.capacity)
