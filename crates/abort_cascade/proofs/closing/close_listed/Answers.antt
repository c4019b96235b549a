use Rattle.std.proofs.Common.{arith, Bool}
use Rattle.std.proofs.lemmas.List.Sums.{count_by-le-length}
use Rattle.abort_cascade.proofs.Members.{IsWalked-none, IsWalked-more, listed_front}
use Rattle.abort_cascade.proofs.closing.close_listed.Goals as goal

pub loop-next-init : goal.loop-next-init
loop-next-init g c = IsWalked-none _ _ _ _ _ c.requires.listed

pub loop-next-preserved : goal.loop-next-preserved
loop-next-preserved g c =
    let spread = c.spread-found.ensures in
    IsWalked-more _ _ _ _ _ _ _ _ _ _ (omega arith) (omega arith) spread.spreads spread.all spread.listed spread.stay spread.more c.loop-next.invariant

pub returns-clause-listed : goal.returns-clause-listed
returns-clause-listed g c = λ node.
    listed_front _ _ _ node (omega (arith, c.loop-next.invariant.listed.size, count_by-le-length (λ (mark : Bool). mark) c.loop-next.marks)) c.loop-next.invariant.listed
