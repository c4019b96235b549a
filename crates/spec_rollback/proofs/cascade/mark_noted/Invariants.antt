use Rattle.std.proofs.Common.{Some}
use Rattle.spec_rollback.specs.Marking.{IsSeen, Finds}
use Rattle.spec_rollback.specs.Pulled.{is_made_by}
use Rattle.spec_rollback.proofs.cascade.mark_noted.Given as goal

abbrev pub invariant-loop-id : goal.invariant-loop-id
invariant-loop-id l = Finds (is_made_by l.tasks.slots l.creator) (IsSeen Some l.ids l.id-index) l.found l.initial.marks
    l.initial.members l.many l.marks l.members
