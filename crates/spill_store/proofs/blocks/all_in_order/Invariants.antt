use Rattle.std.proofs.Common.{ℕ, ◌<◌, [], slice_index_or}
use Rattle.fractal_vt.specs.Sorted.{IsInOrder}
use Rattle.spill_store.specs.SpilledTasks.{by_key}
use Rattle.spill_store.specs.Fronts.{lists_in}
use Rattle.spill_store.proofs.blocks.all_in_order.Given as goal

abbrev pub invariant-loop-tile : goal.invariant-loop-tile
invariant-loop-tile l = (k : ℕ) → k < l.tile → IsInOrder by_key (slice_index_or (lists_in l.blocks) k [])
