use Rattle.std.proofs.Common.{subst}
use Rattle.spec_access.specs.Asking.{Asks}
use Rattle.spec_access.proofs.Found.{one_request, loads_found}
use Rattle.spec_access.proofs.calls.read.Goals as goal

pub request_of_task-requires : goal.request_of_task-requires
request_of_task-requires g c =
    let asks = c.requires.asks.3 in record { takes = (asks.tile, asks.core, asks.task, asks.takes) }

pub load_of-width-requires : goal.load_of-width-requires
load_of-width-requires g c = (
  c.requires.asks.0,
  c.requires.asks.1,
  c.requires.asks.2,
  one_request _ _ _ _ _ c.request_of_task.ensures c.requires.asks.3,
)

pub load_at-requires : goal.load_at-requires
load_at-requires g c = record {
  asks = subst
      (Asks c.args.state.now.view c.args.leg.now c.args.task.0) c.load_of-width.ensures c.request_of_task.ensures;
}

pub returns-clause-loads : goal.returns-clause-loads
returns-clause-loads g c =
    loads_found c.args.state.now.view _ c.args.leg.now c.args.task.0 _ c.request_of_task.ensures _ _ _ _
    c.load_of-width.ensures
    c.load_at.ensures.loads
