use Rattle.std.proofs.Common.{rules, ◌≡◌, [], ap, length, map, slice_index_or, arith}
use Rattle.std.specs.Prelude.{is_some}
use Rattle.tile_queues.specs.Queue.{QueueValue}
use Rattle.spec_state.proofs.Moved.{has_candidate}
use Rattle.spec_state.proofs.Renumbered.{begun, one_more, all_below, below_slots, task_at_place, ids_of_tile}
use Rattle.spec_state.proofs.arrival.renumber_queue.Goals as goal

pub loop-place-init : goal.loop-place-init
loop-place-init c = (begun _ _ _ _ _ _ c.requires.indexed, search rules, search rules)

pub index-requires : goal.index-requires
index-requires c =
    ap is_some (task_at_place c.args.tasks.now.slots c.args.queues.now c.args.tile c.index-queues-tile.result c.ids-ids.result.now c.loop-place.place c.requires.theirs c.requires.tile (search rules) c.ids-ids.ensures.ids c.loop-place-test.true).1

pub move_arrival-requires-clause-slot : goal.move_arrival-requires-clause-slot
move_arrival-requires-clause-slot c =
    let t = task_at_place c.args.tasks.now.slots c.args.queues.now c.args.tile c.index-queues-tile.result c.ids-ids.result.now c.loop-place.place c.requires.theirs c.requires.tile (search rules) c.ids-ids.ensures.ids c.loop-place-test.true in
    let below = below_slots c.args.tasks.now.slots _ t.0 t.1 in
    omega (arith, below, c.capacity-slots.ensures.slots, c.capacity-slots.ensures.value, c.requires.slots, c.loop-place.invariant.0.slots)

pub move_arrival-requires-clause-indexed : goal.move_arrival-requires-clause-indexed
move_arrival-requires-clause-indexed c =
    let t = task_at_place c.args.tasks.now.slots c.args.queues.now c.args.tile c.index-queues-tile.result c.ids-ids.result.now c.loop-place.place c.requires.theirs c.requires.tile (search rules) c.ids-ids.ensures.ids c.loop-place-test.true in
    has_candidate _ _ _ _ _ c.loop-place.invariant.0.indexed _ t.0 t.1

pub loop-place-preserved : goal.loop-place-preserved
loop-place-preserved c =
    let t = task_at_place c.args.tasks.now.slots c.args.queues.now c.args.tile c.index-queues-tile.result c.ids-ids.result.now c.loop-place.place c.requires.theirs c.requires.tile (search rules) c.ids-ids.ensures.ids c.loop-place-test.true in
    let below = below_slots c.args.tasks.now.slots _ t.0 t.1 in
    let slots = c.capacity-slots.ensures.slots in (
      one_more c.args.tasks.now.slots (map (λ (q : QueueValue). q.ids) c.args.queues.now) c.args.next c.args.tile c.args.arrivals.now.items c.loop-place.arrivals.items c.loop-place.index.candidates
          c.loop-place.place (slice_index_or c.ids-ids.result.now c.loop-place.place 0) c.index.result.now c.requires.theirs c.loop-place.invariant.0 t.2 c.index.ensures
          (omega (arith, below, c.capacity-slots.ensures.slots, c.capacity-slots.ensures.value, c.requires.slots, c.loop-place.invariant.0.slots))
          c.move_arrival.new.arrivals.items c.move_arrival.new.index.candidates c.move_arrival.ensures.arrivals c.move_arrival.ensures.candidates,
      search rules,
      search rules,
    )

pub returns-clause-indexed : goal.returns-clause-indexed
returns-clause-indexed c = c.loop-place.invariant.0.indexed

pub returns-clause-below : goal.returns-clause-below
returns-clause-below c =
    let ids_are : slice_index_or (map (λ (q : QueueValue). q.ids) c.args.queues.now) c.args.tile [] ≡ c.ids-ids.result.now =
    ids_of_tile c.args.queues.now c.args.tile c.index-queues-tile.result c.ids-ids.result.now c.requires.tile (search rules) c.ids-ids.ensures.ids in
    let long = ap length ids_are in
    all_below _ _ _ _ _ _ _ c.loop-place.place c.loop-place.invariant.0 (omega (arith, long, c.loop-place-test.false)) (omega (arith, long, c.loop-place.auto.place-end))

pub returns-clause-others : goal.returns-clause-others
returns-clause-others c = c.loop-place.invariant.0.others
