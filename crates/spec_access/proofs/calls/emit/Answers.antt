use Rattle.std.proofs.Common.{subst}
use Rattle.spec_access.specs.Asking.{Asks}
use Rattle.spec_access.proofs.Found.{one_request, emits_found}
use Rattle.spec_access.proofs.calls.emit.Goals as goal

pub request_of_task-requires : goal.request_of_task-requires
request_of_task-requires g c =
    let asks = c.requires.asks.1 in record { takes = (asks.tile, asks.core, asks.task, asks.takes) }

pub byte_of-byte-requires : goal.byte_of-byte-requires
byte_of-byte-requires g c = (
  c.requires.asks.0,
  one_request _ _ _ _ _ c.request_of_task.ensures c.requires.asks.1,
)

pub put_byte-requires : goal.put_byte-requires
put_byte-requires g c = record {
  asks = subst
      (Asks c.args.state.now.view c.args.leg.now c.args.task.0) c.byte_of-byte.ensures c.request_of_task.ensures;
}

pub returns-clause-emits : goal.returns-clause-emits
returns-clause-emits g c =
    emits_found c.args.state.now.view _ c.args.leg.now c.args.task.0 _ c.request_of_task.ensures _
    c.byte_of-byte.ensures c.put_byte.ensures.emits
