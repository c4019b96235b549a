use Rattle.std.proofs.Common.{rules, ◌≡◌, Some, ◌<◌, ◌≤◌, ◌+◌, length, ap, ◌∙◌, arith, slice_index_or}
use Rattle.spec_state.specs.StateValue.{StateValue}
use Rattle.spec_state.specs.View.{task_at}
use Rattle.spec_state.proofs.Proved.{spare_before}
use Rattle.spec_commit.specs.Spilling.{KeepsOtherSpare}
use Rattle.spec_commit.proofs.Blocks.{if_there, push_seen, spare_seen, other_spare, in_blocks, in_spares, in_spare}
use Rattle.spec_commit.proofs.coalescing.push_spilled.Goals as goal

pub push-requires-clause-spare : goal.push-requires-clause-spare
push-requires-clause-spare g c block is =
    let within : c.args.tile < length c.state.inside.blocks.items = search rules in
    let was = spare_before c.state.inside.blocks.items c.args.tile block is within in
    let seen = ap (λ (v : StateValue). slice_index_or v.spare.blocks c.args.tile 0) c.state.view_is in
    omega (arith, was, seen, c.requires.spare)

pub returns-clause-view : goal.returns-clause-view
returns-clause-view g c =
    let r = c.push.ensures in
    let x = c.index-task.result.now in
    let at : task_at c.args.state.now.view c.args.id.0 ≡ Some x = search rules in
    if_there _ x at _
    (in_blocks _ _ _ _ _ _ _ _ c.state.inside.queues.items c.state.inside.finished.items _ _ _ r.one.new_is
    ∙ push_seen _ _ _ _ _ _ _ _ c.state.inside.queues.items c.state.inside.finished.items _ c.state.inside.blocks.items c.args.tile r.before r.after _ (search rules)
    r.one.before_is r.tasks _ (ap (λ (v : StateValue). v.view) c.state.view_is))

pub returns-clause-spare : goal.returns-clause-spare
returns-clause-spare g c =
    let r = c.push.ensures in
    in_spares _ _ (λ spares. slice_index_or c.args.state.now.spare.blocks c.args.tile 0 ≤ slice_index_or spares c.args.tile 0 + 1) r.one.new_is
    (spare_seen c.state.inside.blocks.items c.args.tile r.before r.after (search rules) r.one.before_is r.spare _
    (ap (λ (v : StateValue). v.spare.blocks) c.state.view_is))

pub returns-clause-others : goal.returns-clause-others
returns-clause-others g c =
    let r = c.push.ensures in
    in_spare _ _ _ _ _ (KeepsOtherSpare c.args.tile c.args.state.now.spare) r.one.new_is
    (other_spare _ _ _ c.state.inside.blocks.items c.args.tile r.after _ (ap (λ (v : StateValue). v.spare) c.state.view_is))
