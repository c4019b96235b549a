use Rattle.std.proofs.Common.{◌≡◌, [], replicate, map, length}
use Rattle.std.specs.Prelude.{All}
use Rattle.spec_state.proofs.making.empty_queues.Given as goal

abbrev pub invariant-loop : goal.invariant-loop
invariant-loop g l =
    (map (λ queue. queue.ids) l.queues.items ≡ replicate l.counter []) × (length l.queues.items ≡ l.counter) × All (λ queue. queue.capacity ≡ l.capacity) l.queues.items
