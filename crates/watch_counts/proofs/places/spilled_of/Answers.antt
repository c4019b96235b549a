use Rattle.std.proofs.Common.{◌∙◌, ◌+◌, ap, length}
use Rattle.watch_text.specs.spec_state.View.{block_at}
use Rattle.watch_counts.specs.Capped.{capped}
use Rattle.watch_counts.proofs.Sums.{capped_none, capped_sum_more}
use Rattle.watch_counts.proofs.places.spilled_of.Goals as goal

pub loop-tile-init : goal.loop-tile-init
loop-tile-init g c = capped_none

pub loop-tile-preserved : goal.loop-tile-preserved
loop-tile-preserved g c =
    capped_sum_more (λ tile. length (block_at c.args.state.now.view tile)) c.loop-tile.tile _ _ c.loop-tile.invariant
    (λ n so. c.more-spilled.ensures n so ∙ ap (λ k. capped (n + k)) c.block_len.ensures)
