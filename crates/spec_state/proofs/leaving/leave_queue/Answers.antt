use Rattle.std.proofs.Common.{◌≡◌, ◌+◌, length, sym, subst}
use Rattle.tile_queues.specs.Queue.{QueueValue}
use Rattle.spec_state.proofs.Without.{one_fewer}
use Rattle.spec_state.proofs.leaving.leave_queue.Goals as goal

pub returns-clause-one : goal.returns-clause-one
returns-clause-one c =
    subst (λ (q : QueueValue). length q.ids + 1 ≡ length c.args.queue.now.ids) (sym c.take.ensures.taken)
    (one_fewer c.args.id c.args.queue.now.ids c.ids-distinct.ensures.distinct c.requires.there)
