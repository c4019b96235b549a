use Rattle.std.proofs.Common.{◌≡◌, ◌-◌, ◌+◌, false, length, count_by, cond}
use Rattle.abort_cascade.specs.Cascade.{Marked, IsClosed}
use Rattle.abort_cascade.specs.Growth.{Spreads}
use Rattle.abort_cascade.proofs.marking.grow.Given as goal

abbrev pub invariant-loop-grown : goal.invariant-loop-grown
invariant-loop-grown g l =
    Spreads (g.P.Pulls.count l.relation) (g.P.Pulls.pull l.relation) l.initial.marks l.marks
    × (l.grown ≡ false → IsClosed (g.P.Pulls.count l.relation) (g.P.Pulls.pull l.relation) (Marked l.marks))

abbrev pub decreases-loop-grown : goal.decreases-loop-grown
decreases-loop-grown g l = length l.marks - count_by (λ mark. mark) l.marks + cond l.grown 1 0
