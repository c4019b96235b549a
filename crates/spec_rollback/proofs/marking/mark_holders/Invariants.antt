use Rattle.std.proofs.Common.{◌-◌, ◌≤◌, length}
use Rattle.spec_rollback.specs.Marking.{conflicts_at, IsSeen, Finds}
use Rattle.spec_rollback.proofs.marking.mark_holders.Given as goal

abbrev pub invariant-loop-place : goal.invariant-loop-place
invariant-loop-place g l =
    let a = l.access in
    (l.place ≤ length l.holders)
    × Finds (conflicts_at a.tasks.now.slots a.task.now a.line a.write) (IsSeen g.H.Holder.held l.holders l.place)
    l.found l.initial.marks l.initial.members l.many l.marks l.members

abbrev pub decreases-loop-place : goal.decreases-loop-place
decreases-loop-place g l = length l.holders - l.place
