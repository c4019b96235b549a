use Rattle.std.proofs.Common.{◌<◌}
use Rattle.spill_store.specs.Fronts.{lists_in}
use Rattle.spill_store.proofs.Tiles.{IsBest}
use Rattle.spill_store.proofs.blocks.first_tile.Given as goal

abbrev pub invariant-loop-tile : goal.invariant-loop-tile
invariant-loop-tile l = record {
  inside : l.best < l.tile;
  best : IsBest (lists_in l.blocks) l.tile l.best;
}
