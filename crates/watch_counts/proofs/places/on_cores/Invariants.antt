use Rattle.std.proofs.Common.{◌≡◌, ◌≤◌, ◌+◌, ◌*◌}
use Rattle.std.specs.Prelude.{sum_by}
use Rattle.std.specs.List.{range_with_len}
use Rattle.watch_counts.specs.Counts.{cores_in, is_trapped, runs, stalls}
use Rattle.watch_counts.proofs.Ranged.{cores_to}
use Rattle.watch_counts.proofs.places.on_cores.Given as goal

abbrev pub invariant-loop-tile : goal.invariant-loop-tile
invariant-loop-tile g l = record {
  running : l.counts.running ≡ sum_by (cores_in l.state.view l.cores runs) (range_with_len 0 l.tile);
  stalled : l.counts.stalled ≡ sum_by (cores_in l.state.view l.cores stalls) (range_with_len 0 l.tile);
  trapped : l.counts.trapped ≡ sum_by (cores_in l.state.view l.cores is_trapped) (range_with_len 0 l.tile);
  few_running : l.counts.running ≤ 4 * l.tile;
  few_stalled : l.counts.stalled ≤ 4 * l.tile;
  few_trapped : l.counts.trapped ≤ 4 * l.tile;
}

abbrev pub invariant-loop-core : goal.invariant-loop-core
invariant-loop-core g l = record {
  running : l.counts.running ≡ sum_by (cores_in l.state.view l.cores runs) (range_with_len 0 l.tile)
      + cores_to l.state.view l.cores runs l.tile l.core;
  stalled : l.counts.stalled ≡ sum_by (cores_in l.state.view l.cores stalls) (range_with_len 0 l.tile)
      + cores_to l.state.view l.cores stalls l.tile l.core;
  trapped : l.counts.trapped ≡ sum_by (cores_in l.state.view l.cores is_trapped) (range_with_len 0 l.tile)
      + cores_to l.state.view l.cores is_trapped l.tile l.core;
  few_running : l.counts.running ≤ 4 * l.tile + l.core;
  few_stalled : l.counts.stalled ≤ 4 * l.tile + l.core;
  few_trapped : l.counts.trapped ≤ 4 * l.tile + l.core;
}
