use Rattle.std.proofs.Common.{rules, ap}
use Rattle.tile_queues.specs.Queue.{QueueValue}
use Rattle.spec_dispatch.proofs.Below.spec_state.Proved.{queued}
use Rattle.spec_access.proofs.finishing.put_finished.Goals as goal

pub returns-clause-ids : goal.returns-clause-ids
returns-clause-ids c =
    queued c.args.queues.now.items c.args.tile c.args.id c.index_mut.result.now c.put_last.new.queue
    (search rules) c.index_mut.ensures.value
    (ap (λ (q : QueueValue). q.ids) c.put_last.ensures)
