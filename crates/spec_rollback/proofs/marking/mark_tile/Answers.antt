use Rattle.spec_rollback.proofs.Seen.{finds_more, tile_both}
use Rattle.spec_rollback.proofs.marking.mark_tile.Goals as goal

pub returns : goal.returns
returns c = finds_more _ _ _ _ _ _ _ _ _ _ _ _ _ c.mark_holders-many.ensures c.mark_holders.ensures
    (tile_both c.args.cores.now c.args.ids.now)
