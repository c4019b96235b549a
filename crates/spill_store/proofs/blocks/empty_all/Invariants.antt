use Rattle.std.proofs.Common.{◌≡◌, ◌<◌, ℕ, [], slice_index_or}
use Rattle.spill_store.specs.SpilledTasks.{BlockValue}
use Rattle.spill_store.proofs.blocks.empty_all.Given as goal

abbrev pub invariant-loop-block : goal.invariant-loop-block
invariant-loop-block l = (k : ℕ) (d : BlockValue) → k < l.block-index → (slice_index_or l.blocks k d).tasks ≡ []
