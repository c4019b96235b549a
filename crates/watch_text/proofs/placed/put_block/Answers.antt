use Rattle.std.specs.String.{string_bytes}
use Rattle.watch_text.proofs.Placing.{block_step}
use Rattle.watch_text.proofs.placed.put_block.Goals as goal

pub loop-place-preserved : goal.loop-place-preserved
loop-place-preserved g c =
    block_step c.args.tile _ c.loop-place.place c.spilled_at-desc.result (string_bytes c.args.line.now) _ _
    c.spilled_at-desc.ensures c.loop-place.invariant (rw c.placed_desc.ensures at c.in_ok-put_one.ensures)
