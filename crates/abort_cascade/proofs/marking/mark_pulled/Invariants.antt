use Rattle.abort_cascade.proofs.Rounds.{RoundOf}
use Rattle.abort_cascade.proofs.marking.mark_pulled.Given as goal

abbrev pub invariant-loop-b : goal.invariant-loop-b
invariant-loop-b g l =
    RoundOf (g.P.Pulls.count l.relation) (g.P.Pulls.pull l.relation) l.a l.b l.initial.marks l.marks l.grown
