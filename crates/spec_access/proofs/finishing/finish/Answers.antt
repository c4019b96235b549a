use Rattle.std.proofs.Common.{refl, ap, arith}
use Rattle.std.proofs.lemmas.List.{length-map}
use Rattle.tile_queues.specs.Queue.{QueueValue}
use Rattle.spec_dispatch.specs.spec_state.View.{core_ids}
use Rattle.spec_dispatch.specs.spec_state.StateValue.{StateValue}
use Rattle.spec_dispatch.proofs.Below.spec_state.Proved.{formed_kept, indexed_set, noted_set, slots_set}
use Rattle.spec_access.proofs.Kept.{running_has}
use Rattle.spec_access.proofs.Finished.{in_queues, is_core, not_finished, has_place, tiles_kept, stored_ended, ends}
use Rattle.spec_access.proofs.finishing.finish.Goals as goal

pub put_finished-requires-clause-tile : goal.put_finished-requires-clause-tile
put_finished-requires-clause-tile g c =
    let queued = in_queues _ _ c.args.task.0 _ c.state.invariant.4 c.index_mut-taker.ensures.value in
    omega (
      arith,
      queued,
      length-map c.state.inside.queues.items
          (λ (q : QueueValue). q.ids),
      c.state.invariant.1.queue_count,
      c.state.invariant.1.finished_count,
    )

pub put_finished-requires-clause-absent : goal.put_finished-requires-clause-absent
put_finished-requires-clause-absent g c = not_finished _ _ c.args.task.0 _ c.state.invariant.4
    c.index_mut-taker.ensures.value _ c.held_core-core.ensures

pub put_finished-requires-clause-free : goal.put_finished-requires-clause-free
put_finished-requires-clause-free g c = (
  c.state.inside.settings.commit_queue,
  c.state.invariant.1.commit_queues,
  has_place _ _ c.args.task.0 _ c.state.invariant.4 c.index_mut-taker.ensures.value _
      (ap (λ (v : StateValue). v.view) c.state.view_is) c.requires.free,
)

pub free_core-requires-clause-tile : goal.free_core-requires-clause-tile
free_core-requires-clause-tile g c =
    let queued = in_queues _ _ c.args.task.0 _ c.state.invariant.4 c.index_mut-taker.ensures.value in
    omega (
      arith,
      queued,
      length-map c.state.inside.queues.items
          (λ (q : QueueValue). q.ids),
      c.state.invariant.1.queue_count,
      c.state.invariant.1.core_lists,
    )

pub free_core-requires-clause-core : goal.free_core-requires-clause-core
free_core-requires-clause-core g c = is_core _ _ c.args.task.0 _ c.state.invariant.4 c.index_mut-taker.ensures.value _
    c.held_core-core.ensures

pub invariant_of-state : goal.invariant_of-state
invariant_of-state g c =
    let found = c.index_mut-taker.ensures.value in
    let runs = c.held_core-core.ensures in
    let was = c.state.invariant.4.tasks c.args.task.0 _ found in
    let queued = in_queues _ _ c.args.task.0 _ c.state.invariant.4 found in
    let ids_are = length-map c.state.inside.finished.items (λ (q : QueueValue). q.ids) in
    let queues_are = length-map c.state.inside.queues.items (λ (q : QueueValue). q.ids) in
    let tiles = c.state.invariant.1 in (
      c.state.invariant.0,
      tiles_kept _ _ _ _ _ _ _ tiles c.put_finished.ensures.count
          (c.put_finished.ensures.capacities _ tiles.commit_queues) c.free_core.ensures.tiles,
      c.free_core.ensures.counts _ c.state.invariant.2,
      slots_set _ _ _ _ _ _ _ c.state.invariant.3 found,
      stored_ended _ _ c.args.task.0 _ _ _ _ _ c.state.invariant.4 found runs
          (omega (arith, queued, queues_are, ids_are, tiles.queue_count, tiles.finished_count))
          (omega (
            arith,
            queued,
            queues_are,
            length-map c.state.inside.cores.items
                (λ held. core_ids held.items),
            tiles.queue_count,
            tiles.core_lists,
          ))
          refl refl (formed_kept _ _ _ _ was refl refl refl
          (running_has _ _ _ runs) was.inner was.children was.accesses)
          c.put_finished.ensures.ids c.free_core.ensures.held,
      indexed_set _ _ _ _ _ _ _ _ c.state.invariant.5 found refl refl,
      noted_set _ _ _ _ _ found refl c.state.invariant.6,
    )

pub returns-clause-finishes : goal.returns-clause-finishes
returns-clause-finishes g c tile core task takes =
    ends _ _ _ c.args.task.0 core _ tile _ task _ _ _ _
    (ap (λ (v : StateValue). v.view) c.state.view_is) c.state.invariant.4 c.index_mut-taker.ensures.value
    c.held_core-core.ensures takes c.put_behind.ensures c.put_finished.ensures.ids c.free_core.ensures.held
