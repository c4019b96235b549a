use Rattle.std.proofs.Common.{◌+◌, Some, arith}
use Rattle.std.proofs.lemmas.Option.{slice_get-get_or}
use Rattle.spec_rollback.specs.Marking.{IsSeen}
use Rattle.spec_rollback.proofs.Seen.{finds_more, id_more}
use Rattle.spec_rollback.proofs.cascade.mark_noted.Goals as goal

pub loop-id-preserved : goal.loop-id-preserved
loop-id-preserved c =
    let ids = c.args.ids.now in
    let n = c.loop-id.id-index in
    finds_more _ (IsSeen Some ids n) _ (IsSeen Some ids (n + 1)) _ _ _ _ _ _ _ _ _ c.loop-id.invariant
    c.mark_child-many.ensures (id_more ids n _ (slice_get-get_or ids n 0 (omega arith)))
