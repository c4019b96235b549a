use Rattle.std.proofs.Common.{rules, [], ap, sym, subst, arith, slice_index_or}
use Rattle.spill_store.specs.Fronts.{lists_in}
use Rattle.spec_state.specs.StateValue.{StateValue, HasNoLessSpare}
use Rattle.spill_store.specs.SpilledTasks.{TakesLeast}
use Rattle.spec_commit.specs.Spilling.{KeepsOtherSpare}
use Rattle.spec_commit.proofs.Blocks.{taken_seen, no_less_seen, other_spare, in_spare, rest_seen}
use Rattle.spec_commit.proofs.splitting.take_spilled.Goals as goal

pub returns-clause-taken : goal.returns-clause-taken
returns-clause-taken g c =
    let r = c.in-Some.ensures.some in
    subst (λ bs. TakesLeast (slice_index_or c.args.state.now.view.blocks c.args.tile []) (slice_index_or (lists_in bs) c.args.tile []) (record { desc = c.in-Some.taken.0; domain = c.in-Some.taken.1 })) (sym r.one.new_is)
    (taken_seen c.state.inside.blocks.items c.args.tile r.before r.after _ (search rules) r.one.before_is r.least _
    (ap (λ (v : StateValue). v.view.blocks) c.state.view_is))

pub returns-clause-rest : goal.returns-clause-rest
returns-clause-rest g c =
    let r = c.in-Some.ensures.some in
    rest_seen _ _ _ _ _ _ _ _ c.state.inside.queues.items c.state.inside.finished.items _ c.state.inside.blocks.items _ c.args.tile r.after r.one.new_is (search rules) _
    (ap (λ (v : StateValue). v.view) c.state.view_is)

pub returns-clause-stays : goal.returns-clause-stays
returns-clause-stays g c =
    let r = c.in-Some.ensures.some in
    let one_more = r.spare in
    in_spare _ _ _ _ _ (HasNoLessSpare c.args.state.now.spare) r.one.new_is
    (no_less_seen _ _ _ c.state.inside.blocks.items c.args.tile r.before r.after r.one.before_is
    (omega (arith, one_more)) _
    (ap (λ (v : StateValue). v.spare) c.state.view_is))

pub returns-clause-others : goal.returns-clause-others
returns-clause-others g c =
    let r = c.in-Some.ensures.some in
    in_spare _ _ _ _ _ (KeepsOtherSpare c.args.tile c.args.state.now.spare) r.one.new_is
    (other_spare _ _ _ c.state.inside.blocks.items c.args.tile r.after _ (ap (λ (v : StateValue). v.spare) c.state.view_is))
