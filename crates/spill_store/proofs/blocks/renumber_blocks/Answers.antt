use Rattle.std.proofs.Common.{rules, ap, ◌∙◌, slice_index_or}
use Rattle.spill_store.proofs.Walked.{block_held, tasks_more, spare_same}
use Rattle.spill_store.proofs.blocks.renumber_blocks.Goals as goal

pub renumber-requires-clause-held : goal.renumber-requires-clause-held
renumber-requires-clause-held c =
    let l = c.loop-tile in
    block_held c.args.table.now c.args.blocks.now l.blocks l.tile (slice_index_or l.blocks l.tile c.index-blocks-tile.result) (search rules) l.invariant.2 l.invariant.0
    (ap (slice_index_or l.blocks l.tile) c.index-blocks-tile.is) c.requires.held

pub loop-tile-preserved : goal.loop-tile-preserved
loop-tile-preserved c =
    let l = c.loop-tile in
    let block = slice_index_or l.blocks l.tile c.index-blocks-tile.result in
    let at = ap (slice_index_or l.blocks l.tile) c.index-blocks-tile.is in (
      tasks_more c.args.table.now c.args.blocks.now l.blocks l.tile block (search rules) l.invariant.2 l.invariant.0 at c.renumber.new.self c.renumber.ensures.tasks,
      spare_same l.blocks l.tile block c.renumber.new.self at c.renumber.ensures.spare ∙ l.invariant.1,
      search rules,
    )
