use Rattle.std.proofs.Common.{◌≡◌}
use Rattle.std.specs.Prelude.{sum_by}
use Rattle.std.specs.List.{range_with_len}
use Rattle.watch_text.specs.spec_state.View.{queue_at}
use Rattle.watch_counts.specs.Capped.{capped}
use Rattle.watch_counts.specs.Work.{used_by}
use Rattle.watch_counts.proofs.counts.work_left.Given as goal

abbrev pub invariant-loop-tile : goal.invariant-loop-tile
invariant-loop-tile g l = l.left
    ≡ capped (sum_by (λ tile. sum_by (used_by l.state.view) (queue_at l.state.view tile)) (range_with_len 0 l.tile))
