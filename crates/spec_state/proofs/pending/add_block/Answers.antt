use Rattle.std.proofs.Common.{ap, ◌∙◌, ◌++◌, option_to_list}
use Rattle.spec_state.proofs.Named.{more_spilled}
use Rattle.spec_state.proofs.pending.add_block.Goals as goal

pub loop-place-preserved : goal.loop-place-preserved
loop-place-preserved c =
    let list = c.loop-place.list.items in
    more_spilled c.args.count c.args.list.now.items list c.add.new.list.items c.args.block.now.tasks c.loop-place.place c.desc_at.result
    c.loop-place.invariant c.desc_at.ensures
    (c.in_ok-add.ensures ∙ ap (λ task. list ++ option_to_list task) c.spilled_as.ensures)
