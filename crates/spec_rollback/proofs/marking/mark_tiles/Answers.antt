use Rattle.std.proofs.Common.{◌∙◌, ap, sym, ◌+◌, [], arith, length}
use Rattle.tile_queues.specs.Queue.{QueueValue}
use Rattle.spec_state.specs.View.{core_ids}
use Rattle.spec_state.proofs.Proved.{seen_at}
use Rattle.spec_rollback.specs.Marking.{IsInTiles, held_in, ids_in}
use Rattle.spec_rollback.proofs.Seen.{finds_more, tile_live, tile_more}
use Rattle.spec_rollback.proofs.marking.mark_tiles.Goals as goal

pub mark_tile-many-requires-clause-cores : goal.mark_tile-many-requires-clause-cores
mark_tile-many-requires-clause-cores c =
    let n = c.loop-tile.tile in
    let tiles = c.args.tiles.now in
    let core = c.index-tiles-tile in
    let queue = c.index-tiles-tile-in-loop-tile in
    let on_cores = seen_at (λ held. core_ids held.items) tiles.cores.now n core.result [] (omega arith) core.is in
    let queued = seen_at (λ (q : QueueValue). q.ids) tiles.finished.now n queue.result [] (omega arith) queue.is in
    (tile_live (held_in tiles) (ids_in tiles) (length tiles.cores.now) n c.args.access.now.tasks.now.slots _ _
    (omega arith)
    (on_cores ∙ ap (λ held. core_ids held.items) core.is ∙ ap core_ids (sym c.as_slice.ensures.value))
    (queued ∙ ap (λ (q : QueueValue). q.ids) queue.is ∙ sym c.ids.ensures.ids) c.requires.live).0

pub mark_tile-many-requires-clause-ids : goal.mark_tile-many-requires-clause-ids
mark_tile-many-requires-clause-ids c =
    let n = c.loop-tile.tile in
    let tiles = c.args.tiles.now in
    let core = c.index-tiles-tile in
    let queue = c.index-tiles-tile-in-loop-tile in
    let on_cores = seen_at (λ held. core_ids held.items) tiles.cores.now n core.result [] (omega arith) core.is in
    let queued = seen_at (λ (q : QueueValue). q.ids) tiles.finished.now n queue.result [] (omega arith) queue.is in
    (tile_live (held_in tiles) (ids_in tiles) (length tiles.cores.now) n c.args.access.now.tasks.now.slots _ _
    (omega arith)
    (on_cores ∙ ap (λ held. core_ids held.items) core.is ∙ ap core_ids (sym c.as_slice.ensures.value))
    (queued ∙ ap (λ (q : QueueValue). q.ids) queue.is ∙ sym c.ids.ensures.ids) c.requires.live).1

pub loop-tile-preserved : goal.loop-tile-preserved
loop-tile-preserved c =
    let n = c.loop-tile.tile in
    let tiles = c.args.tiles.now in
    let held = held_in tiles in
    let ids = ids_in tiles in
    let core = c.index-tiles-tile in
    let queue = c.index-tiles-tile-in-loop-tile in
    let on_cores = seen_at (λ held. core_ids held.items) tiles.cores.now n core.result [] (omega arith) core.is in
    let queued = seen_at (λ (q : QueueValue). q.ids) tiles.finished.now n queue.result [] (omega arith) queue.is in
    finds_more _ (IsInTiles held ids n) _ (IsInTiles held ids (n + 1)) _ _ _ _ _ _ _ _ _ c.loop-tile.invariant
    c.mark_tile-many.ensures
    (tile_more held ids n _ _
    (on_cores ∙ ap (λ held. core_ids held.items) core.is ∙ ap core_ids (sym c.as_slice.ensures.value))
    (queued ∙ ap (λ (q : QueueValue). q.ids) queue.is ∙ sym c.ids.ensures.ids))
