use Rattle.std.proofs.Common.{◌≡◌, map, take, length}
use Rattle.spec_state.proofs.queries.loads_of.Given as goal

abbrev pub invariant-loop-queue : goal.invariant-loop-queue
invariant-loop-queue l = l.loads ≡ map length (map (λ queue. queue.ids) (take l.queue-index l.queues))
