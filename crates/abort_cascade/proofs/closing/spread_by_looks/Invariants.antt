use Rattle.abort_cascade.proofs.Members.{SpreadsTo}
use Rattle.abort_cascade.proofs.closing.spread_by_looks.Given as goal

abbrev pub invariant-loop-b : goal.invariant-loop-b
invariant-loop-b g l =
    SpreadsTo (g.P.Pulls.count l.relation) (g.P.Pulls.pull l.relation) l.node l.b l.initial.marks l.marks l.initial.members l.members l.found l.size
