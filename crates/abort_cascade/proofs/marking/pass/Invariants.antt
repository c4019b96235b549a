use Rattle.abort_cascade.proofs.Rounds.{PassTo}
use Rattle.abort_cascade.proofs.marking.pass.Given as goal

abbrev pub invariant-loop-a : goal.invariant-loop-a
invariant-loop-a g l =
    PassTo (g.P.Pulls.count l.relation) (g.P.Pulls.pull l.relation) l.a l.initial.marks l.marks l.grown
