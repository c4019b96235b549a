use Rattle.std.proofs.Common.{ap, ◌∙◌, ◌++◌, option_to_list}
use Rattle.spec_state.proofs.Named.{more_queued}
use Rattle.spec_state.proofs.pending.add_queued.Goals as goal

pub loop-id-preserved : goal.loop-id-preserved
loop-id-preserved c =
    let list = c.loop-id.list.items in
    more_queued c.args.list.now.items list c.add.new.list.items c.args.tasks.now.slots c.loop-id.id c.loop-id.invariant
    (c.in_ok-add.ensures ∙ ap (λ task. list ++ option_to_list task) c.queued_at.ensures)
