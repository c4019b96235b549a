use Rattle.std.proofs.Common.{rules, ◌<◌, ap, length, ◌∙◌, map, slice_index_or}
use Rattle.spill_store.specs.SpilledTasks.{BlockValue}
use Rattle.spec_state.specs.StateValue.{StateValue}
use Rattle.spec_state.proofs.Proved.{spare_at}
use Rattle.spec_commit.specs.Spilling.{KeepsOtherSpare}
use Rattle.spec_commit.proofs.Blocks.{same_seen, covers_seen, other_spare, in_blocks, in_spare, on_after}
use Rattle.spec_commit.proofs.coalescing.reserve_pushes.Goals as goal

pub returns-clause-view : goal.returns-clause-view
returns-clause-view g c =
    let r = c.reserve.ensures.one in
    in_blocks _ _ _ _ _ _ _ _ c.state.inside.queues.items c.state.inside.finished.items _ _ _ r.one.new_is
    ∙ same_seen _ _ _ _ _ _ _ _ c.state.inside.queues.items c.state.inside.finished.items _ c.state.inside.blocks.items c.args.tile r.before r.after
    r.one.before_is r.tasks _ (ap (λ (v : StateValue). v.view) c.state.view_is)

pub returns-clause-covers : goal.returns-clause-covers
returns-clause-covers g c =
    let r = c.reserve.ensures.one in
    let within : c.args.tile < length c.state.inside.blocks.items = search rules in
    covers_seen _ c.args.tile r.after.spare
    (ap (λ bs. slice_index_or (map (λ (b : BlockValue). b.spare) bs) c.args.tile 0) r.one.new_is ∙ spare_at c.state.inside.blocks.items c.args.tile r.after within) c.reserve.result
    (on_after c.reserve.result _ c.state.inside.blocks.items c.args.tile r.after r.one.new_is within c.reserve.ensures.spare)

pub returns-clause-others : goal.returns-clause-others
returns-clause-others g c =
    let r = c.reserve.ensures.one in
    in_spare _ _ _ _ _ (KeepsOtherSpare c.args.tile c.args.state.now.spare) r.one.new_is
    (other_spare _ _ _ c.state.inside.blocks.items c.args.tile r.after _ (ap (λ (v : StateValue). v.spare) c.state.view_is))
