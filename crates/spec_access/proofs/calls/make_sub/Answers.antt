use Rattle.std.proofs.Common.{subst}
use Rattle.spec_access.specs.Asking.{Asks}
use Rattle.spec_access.proofs.Found.{one_request, makes_found}
use Rattle.spec_access.proofs.calls.make_sub.Goals as goal

pub request_of_task-requires : goal.request_of_task-requires
request_of_task-requires g c =
    let asks = c.requires.asks.1 in record { takes = (asks.tile, asks.core, asks.task, asks.takes) }

pub kind_of-kind-requires : goal.kind_of-kind-requires
kind_of-kind-requires g c = (
  c.requires.asks.0,
  one_request _ _ _ _ _ c.request_of_task.ensures c.requires.asks.1,
)

pub open_sub-requires : goal.open_sub-requires
open_sub-requires g c = record {
  asks = subst
      (Asks c.args.state.now.view c.args.leg.now c.args.task.0) c.kind_of-kind.ensures c.request_of_task.ensures;
}

pub returns-clause-makes : goal.returns-clause-makes
returns-clause-makes g c =
    makes_found c.args.state.now.view _ c.args.leg.now c.args.task.0 _ c.request_of_task.ensures _
    c.kind_of-kind.ensures c.open_sub.ensures.makes
