use Rattle.std.proofs.Common.{◌+◌}
use Rattle.spec_rollback.specs.Marking.{IsBelow}
use Rattle.spec_rollback.proofs.Seen.{finds_more, below_more}
use Rattle.spec_rollback.proofs.cascade.mark_made.Goals as goal

pub loop-id-preserved : goal.loop-id-preserved
loop-id-preserved c =
    let n = c.loop-id.id in
    finds_more _ (IsBelow n) _ (IsBelow (n + 1)) _ _ _ _ _ _ _ _ _ c.loop-id.invariant c.mark_child-many.ensures
    (below_more n)
