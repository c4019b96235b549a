use Rattle.std.proofs.Common.{rules, arith, ap, length, map, ◌≤◌}
use Rattle.std.proofs.lemmas.List.{length-map}
use Rattle.tile_queues.specs.Queue.{QueueValue}
use Rattle.spec_state.specs.View.{core_ids}
use Rattle.spec_state.specs.StateValue.{StateValue}
use Rattle.spec_rollback.proofs.Conflicting.{conflicts_in, live_in}
use Rattle.spec_rollback.proofs.Marked.{put_back}
use Rattle.spec_rollback.proofs.Unmarked.{none_found}
use Rattle.spec_rollback.proofs.marking.mark_conflicts.Goals as goal

pub returns-then-is_alone-clause-found : goal.returns-then-is_alone-clause-found
returns-then-is_alone-clause-found g c =
    none_found c.args.state.now.view _ c.args.line c.args.write c.args.state.now.scratch.marks
    (c.is_alone.ensures c.if-is_alone.true)

pub mark_in_order-requires-clause-live : goal.mark_in_order-requires-clause-live
mark_in_order-requires-clause-live g c = live_in g.N.Naming.image.data_size _ c.state.invariant.4
    (record { cores = c.as_slice.result; finished = c.as_slice-2.result })
    (ap (map (λ held. core_ids held.items)) c.as_slice.ensures.value)
    (ap (map (λ (q : QueueValue). q.ids)) c.as_slice-2.ensures.value)

pub returns-clause-found : goal.returns-clause-found
returns-clause-found g c =
    let tiles = c.state.invariant.1 in
    let many = length-map c.state.inside.queues.items (λ (q : QueueValue). q.ids) in
    let all : length (map (λ (q : QueueValue). q.ids) c.state.inside.queues.items) ≤ length
    c.as_slice.result.now = omega (arith, many, tiles, c.as_slice.ensures.len) in
    conflicts_in g.N.Naming.image.data_size _ _ (ap (λ (v : StateValue). v.view) c.state.view_is) c.state.invariant.4
    _ _
    (ap (map (λ held. core_ids held.items)) c.as_slice.ensures.value)
    (ap (map (λ (q : QueueValue). q.ids)) c.as_slice-2.ensures.value)
    (length c.as_slice.result.now) all c.args.task.0 c.index.result.now c.index.ensures c.args.line c.args.write
    c.mark_in_order.result _ c.mark_in_order.new.marks _ _ _ c.mark_in_order.ensures
    (put_back c.state.inside.marks.len c.mark_in_order.new.marks c.state.inside.marks.items (search rules)
    (search rules))
