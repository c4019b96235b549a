use Rattle.std.proofs.Common.{◌≡◌, ◌++◌, take}
use Rattle.std.specs.List.{filter_map}
use Rattle.spec_state.specs.Pendings.{pending_queued}
use Rattle.spec_state.proofs.pending.add_queued.Given as goal

abbrev pub invariant-loop-id : goal.invariant-loop-id
invariant-loop-id l = l.list.items ≡ l.fn.list.items ++ filter_map pending_queued (take l.id l.tasks.slots)
