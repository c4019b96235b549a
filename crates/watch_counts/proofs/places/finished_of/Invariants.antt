use Rattle.std.proofs.Common.{◌≡◌, length}
use Rattle.std.specs.Prelude.{sum_by}
use Rattle.std.specs.List.{range_with_len}
use Rattle.watch_text.specs.spec_state.View.{finished_at}
use Rattle.watch_counts.specs.Capped.{capped}
use Rattle.watch_counts.proofs.places.finished_of.Given as goal

abbrev pub invariant-loop-tile : goal.invariant-loop-tile
invariant-loop-tile g l =
    l.finished ≡ capped (sum_by (λ tile. length (finished_at l.state.view tile)) (range_with_len 0 l.tile))
