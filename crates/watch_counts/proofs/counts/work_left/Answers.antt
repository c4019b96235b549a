use Rattle.std.proofs.Common.{◌∙◌, ◌+◌, ap}
use Rattle.std.specs.Prelude.{sum_by}
use Rattle.watch_text.specs.spec_state.View.{queue_at}
use Rattle.watch_counts.specs.Capped.{capped}
use Rattle.watch_counts.specs.Work.{used_by}
use Rattle.watch_counts.proofs.Sums.{capped_none, capped_sum_more}
use Rattle.watch_counts.proofs.counts.work_left.Goals as goal

pub loop-tile-init : goal.loop-tile-init
loop-tile-init g c = capped_none

pub loop-tile-preserved : goal.loop-tile-preserved
loop-tile-preserved g c =
    let view = c.args.state.now.view in
    capped_sum_more (λ tile. sum_by (used_by view) (queue_at view tile)) c.loop-tile.tile _ _ c.loop-tile.invariant
    (λ n so. c.more_used-left.ensures n so
    ∙ ap (λ ids. capped (n + sum_by (used_by view) ids)) c.queued_in.ensures.ids)
