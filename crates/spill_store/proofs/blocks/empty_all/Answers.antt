use Rattle.std.proofs.Common.{arith, ap, ◌∙◌, [], replicate}
use Rattle.spill_store.specs.SpilledTasks.{BlockValue}
use Rattle.spill_store.proofs.Emptied.{all_give}
use Rattle.spill_store.proofs.blocks.empty_all.Goals as goal

pub returns-clause-lists : goal.returns-clause-lists
returns-clause-lists c =
    all_give (λ (b : BlockValue). b.tasks) [] c.loop-block.blocks
    (λ k d within. c.loop-block.invariant k d (omega (arith, within)))
    ∙ ap (λ n. replicate n []) c.loop-block.auto.blocks
