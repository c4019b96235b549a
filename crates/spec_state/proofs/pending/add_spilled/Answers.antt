use Rattle.std.proofs.Common.{sym}
use Rattle.spec_state.proofs.Named.{more_blocks}
use Rattle.spec_state.proofs.pending.add_spilled.Goals as goal

pub loop-block-preserved : goal.loop-block-preserved
loop-block-preserved c =
    more_blocks c.args.count c.args.list.now.items c.loop-block.list.items c.add_block.new.list.items c.args.blocks.now c.loop-block.block-index
    c.block-item.result c.loop-block-test.true (sym c.block-item.is) c.loop-block.invariant c.in_ok-add_block.ensures
