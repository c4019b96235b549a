use Rattle.std.proofs.Common.{◌≡◌, ◌++◌, map, take, drop, length}
use Rattle.spill_store.specs.SpilledTasks.{BlockValue, renumbered_spilled}
use Rattle.spill_store.specs.Fronts.{lists_in}
use Rattle.spill_store.proofs.blocks.renumber_blocks.Given as goal

abbrev pub invariant-loop-tile : goal.invariant-loop-tile
invariant-loop-tile l =
    (lists_in l.blocks ≡ map (map (renumbered_spilled l.table)) (take l.tile (lists_in l.fn.blocks)) ++ drop l.tile (lists_in l.fn.blocks))
    × (map (λ (block : BlockValue). block.spare) l.blocks ≡ map (λ (block : BlockValue). block.spare) l.fn.blocks)
    × (length l.blocks ≡ length l.fn.blocks)
