use Rattle.spec_rollback.specs.Marking.{IsBelow, Finds}
use Rattle.spec_rollback.specs.Pulled.{is_made_by}
use Rattle.spec_rollback.proofs.cascade.mark_made.Given as goal

abbrev pub invariant-loop-id : goal.invariant-loop-id
invariant-loop-id l = Finds (is_made_by l.tasks.slots l.creator) (IsBelow l.id) l.found l.initial.marks
    l.initial.members l.many l.marks l.members
