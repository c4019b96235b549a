use Rattle.std.proofs.Common.{length}
use Rattle.spill_store.proofs.blocks.empty_block.Given as goal

abbrev pub decreases-loop : goal.decreases-loop
decreases-loop l = length l.block.tasks
