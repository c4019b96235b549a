use Rattle.std.proofs.Common.{◌-◌, length}
use Rattle.abort_cascade.proofs.Members.{IsWalked}
use Rattle.abort_cascade.proofs.closing.close_listed.Given as goal

abbrev pub invariant-loop-next : goal.invariant-loop-next
invariant-loop-next g l =
    IsWalked (g.S.Spreader.count l.relation) (g.S.Spreader.pull l.relation) l.initial.marks l.marks
    l.members l.next l.found

abbrev pub decreases-loop-next : goal.decreases-loop-next
decreases-loop-next g l = length l.marks - l.next
