use Rattle.std.proofs.Common.{◌+◌, arith, take}
use Rattle.std.proofs.lemmas.Option.{get_or_from_slice_get}
use Rattle.spec_rollback.specs.Marking.{StandsIn}
use Rattle.spec_rollback.specs.Pulled.{some_store_conflicts_at}
use Rattle.spec_rollback.proofs.Seen.{finds_both}
use Rattle.spec_rollback.proofs.Pulling.{store_more}
use Rattle.spec_rollback.proofs.cascade.mark_stores.Goals as goal

pub loop-place-preserved : goal.loop-place-preserved
loop-place-preserved c =
    let n = c.loop-place.place in
    let cascade = c.args.cascade.now in
    let log = c.args.log.now in
    let tasks = cascade.tasks.now.slots in
    let writer = c.args.writer.now in
    let here = StandsIn cascade.tiles in
    finds_both (some_store_conflicts_at cascade.size tasks writer (take n log)) _
    (some_store_conflicts_at cascade.size tasks writer (take (n + 1) log)) here here here _ _ _ _ _ _ _ _ _
    c.loop-place.invariant c.mark_store-many.ensures
    (λ id. store_more cascade.size tasks writer log n c.access_at-access.result
    (omega arith) (get_or_from_slice_get log n _ _ c.access_at-access.ensures) (here id) id)
