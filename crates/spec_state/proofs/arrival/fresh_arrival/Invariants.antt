use Rattle.std.proofs.Common.{◌≡◌, ◌≤◌, length, map}
use Rattle.spec_state.specs.Stored.{IsIndexed}
use Rattle.spec_state.proofs.Arriving.{AllBelow}
use Rattle.spec_state.proofs.arrival.fresh_arrival.Given as goal

abbrev pub invariant-loop-tile : goal.invariant-loop-tile
invariant-loop-tile l =
    IsIndexed l.tasks.slots (map (λ queue. queue.ids) l.queues) l.arrivals.items l.next l.index.candidates
    × AllBelow (map (λ queue. queue.ids) l.queues) l.arrivals.items l.longest l.tile
    × (length l.arrivals.items ≡ length l.fn.arrivals.items)
    × (length l.index.candidates ≤ length l.fn.index.candidates)
    × (l.index.capacity ≡ l.fn.index.capacity)
