use Rattle.std.proofs.Common.{subst}
use Rattle.spec_access.specs.Asking.{Asks}
use Rattle.spec_access.proofs.Found.{one_request, stores_found}
use Rattle.spec_access.proofs.calls.write.Goals as goal

pub request_of_task-requires : goal.request_of_task-requires
request_of_task-requires g c =
    let asks = c.requires.asks.3 in record { takes = (asks.tile, asks.core, asks.task, asks.takes) }

pub store_of-offset-requires : goal.store_of-offset-requires
store_of-offset-requires g c = (
  c.requires.asks.0,
  c.requires.asks.1,
  c.requires.asks.2,
  one_request _ _ _ _ _ c.request_of_task.ensures c.requires.asks.3,
)

pub store_at-requires : goal.store_at-requires
store_at-requires g c = record {
  asks = subst
      (Asks c.args.state.now.view c.args.leg.now c.args.task.0) c.store_of-offset.ensures c.request_of_task.ensures;
}

pub returns-clause-stores : goal.returns-clause-stores
returns-clause-stores g c =
    stores_found c.args.state.now.view _ c.args.leg.now c.args.task.0 _ c.request_of_task.ensures _ _ _ _
    c.store_of-offset.ensures
    c.store_at.ensures.stores
