use Rattle.std.proofs.Common.{◌-◌, ◌≤◌, length}
use Rattle.spec_rollback.specs.Marking.{ArePassed}
use Rattle.spec_rollback.proofs.marking.next_place.Given as goal

abbrev pub invariant-loop-place : goal.invariant-loop-place
invariant-loop-place g l =
    (l.initial.from ≤ l.place) × (l.place ≤ length l.holders)
    × ArePassed g.H.Holder.held l.holders l.tasks.slots l.line l.write l.initial.from l.place

abbrev pub decreases-loop-place : goal.decreases-loop-place
decreases-loop-place g l = length l.holders - l.place
