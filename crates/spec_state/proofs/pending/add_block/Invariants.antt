use Rattle.std.proofs.Common.{◌≡◌, ◌++◌, take}
use Rattle.spec_state.specs.Pendings.{spilled_pending}
use Rattle.spec_state.proofs.pending.add_block.Given as goal

abbrev pub invariant-loop-place : goal.invariant-loop-place
invariant-loop-place l = l.list.items ≡ l.fn.list.items ++ spilled_pending l.count (take l.place l.block.tasks)
