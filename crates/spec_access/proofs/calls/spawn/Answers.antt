use Rattle.std.proofs.Common.{subst}
use Rattle.spec_access.specs.Asking.{Asks}
use Rattle.spec_access.proofs.Found.{one_request, enqueues_found}
use Rattle.spec_access.proofs.calls.spawn.Goals as goal

pub request_of_task-requires : goal.request_of_task-requires
request_of_task-requires g c =
    let asks = c.requires.asks.1 in record { takes = (asks.tile, asks.core, asks.task, asks.takes) }

pub spawn_of-child-requires : goal.spawn_of-child-requires
spawn_of-child-requires g c = (
  c.requires.asks.0,
  one_request _ _ _ _ _ c.request_of_task.ensures c.requires.asks.1,
)

pub enqueue_child-requires-clause-asks : goal.enqueue_child-requires-clause-asks
enqueue_child-requires-clause-asks g c =
    subst (Asks c.args.state.now.view c.args.leg.now c.args.task.0) c.spawn_of-child.ensures c.request_of_task.ensures

pub returns-clause-enqueues : goal.returns-clause-enqueues
returns-clause-enqueues g c =
    enqueues_found c.args.state.now.view _ c.args.leg.now c.args.task.0 _ c.request_of_task.ensures _ _ _ _
    c.spawn_of-child.ensures
    c.enqueue_child.ensures.enqueues
