use Rattle.spec_access.proofs.Found.{takes_some, nothing_asked}
use Rattle.spec_access.proofs.calls.keep.Goals as goal

pub request_of_task-requires : goal.request_of_task-requires
request_of_task-requires g c = record { takes = takes_some _ _ _ c.requires.asks }

pub cause_of-requires : goal.cause_of-requires
cause_of-requires g c = nothing_asked _ _ _ _ c.request_of_task.ensures c.requires.asks
