use Rattle.std.proofs.Common.{arith}
use Rattle.abort_cascade.proofs.Members.{ListsTo-skip, ListsTo-more, ListsTo-below}
use Rattle.abort_cascade.proofs.closing.list_marked.Goals as goal
use Rattle.abort_cascade.proofs.closing.list_marked.Goals.{then-marked, else-marked}

pub loop-node-preserved : goal.loop-node-preserved
loop-node-preserved c =
    elim c.if-marked.branch [
      | then-marked w ↦
          rw (w.members-is, w.found-is)
          (ListsTo-more _ _ _ _ (omega arith) (omega (arith, ListsTo-below _ _ _ _ c.loop-node.invariant)) w.if-marked.true c.loop-node.invariant)
      | else-marked w ↦ rw (w.members-is, w.found-is) (ListsTo-skip _ _ _ _ (omega arith) w.if-marked.false c.loop-node.invariant)
    ]
