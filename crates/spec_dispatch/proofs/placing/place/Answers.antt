use Rattle.std.proofs.Common.{rules, ◌<◌, ◌∙◌, None, [], length, ap, sym, subst, refl, arith, slice_get, slice_index_or}
use Rattle.spec_state.specs.declared.task.Task.{Task}
use Rattle.spec_state.specs.Queries.{IsLeastIdle, IsLowestFree}
use Rattle.spec_state.specs.StateValue.{StateValue}
use Rattle.spec_state.proofs.Proved.{noted_set, same_count, slots_kept}
use Rattle.spec_dispatch.proofs.Dispatched.{stored_dispatched}
use Rattle.spec_dispatch.proofs.Placed.{cores_counted, core_within, dispatches_seen, indexed_closed, open_here, open_in}
use Rattle.spec_dispatch.proofs.placing.place.Goals as goal

pub close-requires : goal.close-requires
close-requires g c =
    open_in c.state.inside.tasks.slots _ _ _ c.args.id.0 _ c.index_mut.result.now c.state.invariant.5 c.index_mut.ensures.value
    (open_here _ _ (ap (λ (v : StateValue). v.view) c.state.view_is) g.N.Naming.image.data_size c.args.tile c.args.id.0 _ c.index_mut.result.now c.requires.least.1 c.index_mut.ensures.value c.state.invariant.4)

pub index_mut-requires-3 : goal.index_mut-requires-3
index_mut-requires-3 g c =
    core_within c.state.inside.cores.items c.args.tile c.args.core c.index_mut-2.result.now None (search rules) c.index_mut-2.ensures.value
    (ap (λ (v : StateValue). slice_get (slice_index_or v.view.cores c.args.tile []) c.args.core) c.state.view_is ∙ c.requires.free.free)

pub returns-clause-dispatches : goal.returns-clause-dispatches
returns-clause-dispatches g c =
    dispatches_seen _ _ c.state.inside.tasks.slots _ _ _ _ _ c.state.inside.queues.items c.state.inside.finished.items c.state.inside.cores.items _ c.args.tile c.args.core c.args.id
    c.index_mut.result.now c.start.new.task c.index_mut-2.result.now (search rules) c.index_mut-2.ensures.value c.index_mut.ensures.value c.start.ensures
    _ (ap (λ (v : StateValue). v.view) c.state.view_is) c.requires.least.0 c.requires.least.1 c.requires.free

pub invariant_of-state : goal.invariant_of-state
invariant_of-state g c =
    let view = λ (v : StateValue). v.view in
    let within : c.args.tile < length c.state.inside.cores.items = search rules in
    let dispatches = dispatches_seen _ _ c.state.inside.tasks.slots _ _ _ _ _ c.state.inside.queues.items c.state.inside.finished.items c.state.inside.cores.items _ c.args.tile c.args.core c.args.id
    c.index_mut.result.now c.start.new.task c.index_mut-2.result.now within c.index_mut-2.ensures.value c.index_mut.ensures.value c.start.ensures
    _ refl c.requires.least.0
    (subst (λ (v : StateValue). IsLeastIdle v.view c.args.tile c.args.id.0 c.requires.least.0) (sym c.state.view_is) c.requires.least.1)
    (subst (λ (v : StateValue). IsLowestFree v.view c.args.tile c.args.core) (sym c.state.view_is) c.requires.free) in (
      c.state.invariant.0,
      c.state.invariant.1,
      cores_counted c.state.inside.cores.items c.args.tile c.args.core c.state.inside.settings.cores c.args.id c.index_mut-2.result.now within c.index_mut-2.ensures.value c.state.invariant.2,
      slots_kept _ _ _ _ _ _ _ c.state.invariant.3 (same_count c.state.inside.tasks.slots c.args.id.0 c.index_mut.result.now c.start.new.task c.index_mut.ensures.value)
          (omega (arith, c.close.ensures.count)) c.close.ensures.capacity,
      stored_dispatched _ _ c.args.tile dispatches g.N.Naming.image.data_size c.state.invariant.4,
      indexed_closed c.state.inside.version c.state.inside.tasks.slots _ _ _ c.args.id.0 c.args.core c.state.inside.next _ _ c.index_mut.result.now c.start.new.task c.state.invariant.5 c.index_mut.ensures.value c.start.ensures
          c.close.ensures.candidates,
      noted_set c.state.inside.tasks.slots _ c.args.id.0 c.index_mut.result.now c.start.new.task c.index_mut.ensures.value (ap (λ (t : Task). t.creator) c.start.ensures) c.state.invariant.6,
    )
