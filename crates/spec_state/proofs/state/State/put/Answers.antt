use Rattle.std.proofs.Common.{rules, ◌≡◌, ◌<◌, ◌∷◌, ◌++◌, ℕ, List, [], map, sym, ap, subst, refl, ◌∙◌, slice_index_or}
use Rattle.std.proofs.Common.{length, arith}
use Rattle.std.specs.Prelude.{Contains}
use Rattle.std.proofs.Common.{length-set}
use Rattle.tile_queues.specs.Queue.{QueueValue}
use Rattle.spec_state.specs.StateValue.{StateValue}
use Rattle.spec_state.specs.Stored.{IsWellFormed, IsIndexed, AreTheirs}
use Rattle.spec_state.proofs.Joined.{ids_at, not_queued, stored_added}
use Rattle.spec_state.proofs.Entered.{no_candidate}
use Rattle.spec_state.proofs.Noted.{noted_others}
use Rattle.spec_state.proofs.Put.{in_lists, slots_after, adds_seen_at, entered_put_at, has_slot, few_indexed, few_more}
use Rattle.spec_state.proofs.state.State.put.Goals as goal

pub fresh_arrival-arrival-requires-clause-spare : goal.fresh_arrival-arrival-requires-clause-spare
fresh_arrival-arrival-requires-clause-spare g c = few_indexed _ _ _ _ _ _ _ c.self.invariant.1 c.self.invariant.3

pub fresh_arrival-arrival-requires-clause-theirs : goal.fresh_arrival-arrival-requires-clause-theirs
fresh_arrival-arrival-requires-clause-theirs g c =
    subst (λ (queues : List QueueValue). AreTheirs c.self.inside.tasks.slots (map (λ (q : QueueValue). q.ids) queues)) (sym c.as_slice.ensures.value)
    (λ tile id has. (let t = (c.self.invariant.4.queued_are tile id).0 has in (t.0, t.1, t.2)))

pub put_in-id-requires : goal.put_in-id-requires
put_in-id-requires g c =
    (has_slot _ c.self.inside.queues.items _ _ _ c.self.invariant.1 c.tile-tile.result (search rules) (search rules) _ _ c.self.invariant.3).0

pub put_last-requires-clause-absent : goal.put_last-requires-clause-absent
put_last-requires-clause-absent g c has =
    let queue = c.index_mut.result.now in
    let held : slice_index_or (map (λ (q : QueueValue). q.ids) c.self.inside.queues.items) c.tile-tile.result [] ≡ queue.ids =
    ids_at c.self.inside.queues.items c.tile-tile.result queue (search rules)
    ∙ ap (λ (q : QueueValue). q.ids) (sym c.index_mut.ensures.value) in
    not_queued g.N.Naming.image.data_size _ c.tile-tile.result c.put_in-id.result c.self.invariant.4 c.put_in-id.ensures.was_vacant
    (subst (λ ids. Contains ids c.put_in-id.result) (sym held) has)

pub insert-requires-clause-spare : goal.insert-requires-clause-spare
insert-requires-clause-spare g c =
    let slot = (has_slot _ c.self.inside.queues.items _ _ _ c.self.invariant.1 c.tile-tile.result (search rules) (search rules) _ _ c.self.invariant.3).1 in
    omega (arith, slot, c.fresh_arrival-arrival.ensures.count, c.fresh_arrival-arrival.ensures.capacity)

pub insert-requires-clause-other : goal.insert-requires-clause-other
insert-requires-clause-other g c =
    no_candidate _ _ _ _ _ _ c.fresh_arrival-arrival.ensures.indexed c.put_in-id.ensures.was_vacant

pub note-requires : goal.note-requires
note-requires g c = noted_others _ _ _ _ c.put_in-id.ensures.updates.others c.self.invariant.6

pub returns-clause-adds : goal.returns-clause-adds
returns-clause-adds g c =
    let updates = c.put_in-id.ensures.updates in
    adds_seen_at _ _ _ _ _ _ _ _ c.self.inside.queues.items _ _ _ _ c.put_in-id.result c.args.task.now c.index_mut.result.now c.put_last.new.queue c.tile-tile.result c.tile-tile.ensures.tile (search rules)
    c.index_mut.ensures.value (ap (λ (q : QueueValue). q.ids) c.put_last.ensures) c.put_in-id.ensures.was_vacant updates.changed updates.others
    _ (ap (λ (v : StateValue). v.view) c.self.view_is)

pub invariant_of-self : goal.invariant_of-self
invariant_of-self g c =
    let updates = c.put_in-id.ensures.updates in
    let queue = c.index_mut.result.now in
    let after = c.put_last.new.queue in
    let id = c.put_in-id.result in
    let tile : ℕ = c.tile-tile.result in
    let ids : after.ids ≡ queue.ids ++ id ∷ [] = ap (λ (q : QueueValue). q.ids) c.put_last.ensures in
    let within : tile < length c.self.inside.queues.items = search rules in
    let formed : IsWellFormed g.N.Naming.image.data_size (length c.self.inside.history.entries) c.args.task.now =
    subst (λ (v : StateValue). IsWellFormed g.N.Naming.image.data_size (length v.view.history) c.args.task.now) (sym c.self.view_is) c.requires.formed in
    let indexed : IsIndexed c.self.inside.tasks.slots (map (λ (q : QueueValue). q.ids) c.self.inside.queues.items) c.fresh_arrival-arrival.new.arrivals.items c.fresh_arrival-arrival.result c.fresh_arrival-arrival.new.index.candidates =
    subst (λ queues. IsIndexed c.self.inside.tasks.slots (map (λ (q : QueueValue). q.ids) queues) c.fresh_arrival-arrival.new.arrivals.items c.fresh_arrival-arrival.result c.fresh_arrival-arrival.new.index.candidates) c.as_slice.ensures.value c.fresh_arrival-arrival.ensures.indexed in
    let grown = in_lists _ c.self.inside.queues.items _ _ _ c.self.invariant.1 tile (search rules) queue c.index_mut.ensures.value (search rules) in (
      c.self.invariant.0,
      search rules,
      c.self.invariant.2,
      slots_after _ c.self.inside.queues.items _ _ _ c.self.invariant.1 tile (search rules) queue c.index_mut.ensures.value (search rules) _ _ c.self.invariant.3 id after ids
          c.put_in-id.new.tasks.slots c.put_in-id.new.tasks.capacity (length c.insert.new.self.candidates) c.insert.new.self.capacity _
          c.put_in-id.ensures.len c.put_in-id.ensures.capacity
          (few_more _ _ _ _ c.insert.ensures.candidates c.fresh_arrival-arrival.ensures.count)
          (c.insert.ensures.capacity ∙ c.fresh_arrival-arrival.ensures.capacity) (length-set _ id _ ∙ c.fresh_arrival-arrival.ensures.slots),
      stored_added _ _ id c.args.task.now
          (adds_seen_at _ _ _ _ _ _ _ _ c.self.inside.queues.items _ _ _ _ id c.args.task.now queue after tile c.tile-tile.ensures.tile within c.index_mut.ensures.value ids
          c.put_in-id.ensures.was_vacant updates.changed updates.others _ refl)
          g.N.Naming.image.data_size c.self.invariant.4 (subst (λ (t : ℕ). t < length (map (λ (q : QueueValue). q.ids) c.self.inside.queues.items)) c.tile-tile.ensures.tile grown) c.tile-tile.ensures.idle formed,
      entered_put_at _ _ c.self.inside.queues.items _ _ _ _ id c.args.task.now c.index.result.now queue after tile c.tile-tile.ensures.tile indexed within c.index_mut.ensures.value ids
          c.put_in-id.ensures.was_vacant updates.changed updates.others
          (subst (λ n. id < n) (sym (c.fresh_arrival-arrival.ensures.slots ∙ c.self.invariant.3.arrivals)) (subst (λ n. id < n) c.put_in-id.ensures.capacity c.put_in-id.ensures.key_in_range))
          (λ t k has same. not_queued g.N.Naming.image.data_size _ t id c.self.invariant.4 c.put_in-id.ensures.was_vacant (subst (Contains _) same has))
          c.index.ensures c.insert.ensures.candidates,
      c.note.ensures.noted,
    )
