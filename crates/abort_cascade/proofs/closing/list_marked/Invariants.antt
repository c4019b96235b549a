use Rattle.abort_cascade.proofs.Members.{ListsTo}
use Rattle.abort_cascade.proofs.closing.list_marked.Given as goal

abbrev pub invariant-loop-node : goal.invariant-loop-node
invariant-loop-node l = ListsTo l.node l.marks l.members l.found
