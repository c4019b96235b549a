use Rattle.std.proofs.Common.{◌≡◌, [], length, replicate}
use Rattle.spill_store.specs.Fronts.{lists_in}
use Rattle.spill_store.proofs.blocks.empty_blocks.Given as goal

abbrev pub invariant-loop-tile : goal.invariant-loop-tile
invariant-loop-tile l = (lists_in l.blocks.items ≡ replicate l._tile []) × (length l.blocks.items ≡ l._tile)
