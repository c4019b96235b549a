use Rattle.std.proofs.Common.{take}
use Rattle.spec_rollback.specs.Marking.{StandsIn, Finds}
use Rattle.spec_rollback.specs.Pulled.{some_store_conflicts_at}
use Rattle.spec_rollback.proofs.cascade.mark_stores.Given as goal

abbrev pub invariant-loop-place : goal.invariant-loop-place
invariant-loop-place l =
    let c = l.cascade in
    Finds (some_store_conflicts_at c.size c.tasks.now.slots l.writer (take l.place l.log))
    (StandsIn c.tiles) l.found l.initial.marks l.initial.members l.many l.marks l.members
