use Rattle.std.proofs.Common.{rules, ◌≡◌, ◌<◌, [], map, sym, ap, subst, refl, ◌∙◌, length}
use Rattle.std.specs.Prelude.{Contains, vec_len}
use Rattle.std.specs.Vec.{with_items}
use Rattle.std.proofs.lemmas.List.{with_items_is}
use Rattle.tile_queues.specs.Queue.{QueueValue}
use Rattle.spec_state.specs.Leaving.{freed_of, IsHeldAs}
use Rattle.spec_state.specs.StateValue.{StateValue}
use Rattle.spec_state.specs.View.{core_ids}
use Rattle.spec_state.proofs.Moved.{fewer, has_candidate}
use Rattle.spec_state.proofs.Noted.{noted_left}
use Rattle.spec_state.proofs.Renumbered.{ids_of_tile}
use Rattle.spec_state.proofs.Without.{seen_at}
use Rattle.spec_state.proofs.Vacated.{own_queued, own_finished, own_held, stored_left}
use Rattle.spec_state.proofs.Left.{task_within, leaves_in, leaves_seen, tiles_left, all_but_one, slots_left}
use Rattle.spec_state.proofs.Left.{indexed_gone}
use Rattle.spec_state.proofs.state.State.take_out.Goals as goal

pub index_mut-requires : goal.index_mut-requires
index_mut-requires g c =
    let within = task_within _ _ c.self.invariant.4 c.args.id.0 _ c.index-task.ensures _ c.self.inside.queues.items _ _ _ c.self.invariant.1 refl in
    search rules

pub leave_queue-requires : goal.leave_queue-requires
leave_queue-requires g c =
    let within = task_within _ _ c.self.invariant.4 c.args.id.0 _ c.index-task.ensures _ c.self.inside.queues.items _ _ _ c.self.invariant.1 refl in
    let ids = ids_of_tile c.self.inside.queues.items c.index-task.result.now.tile c.index_mut.result.now _ (search rules) c.index_mut.ensures.value refl in
    record {
      there = subst (λ xs. Contains xs c.args.id.0) ids (own_queued _ _ c.self.invariant.4 c.args.id.0 _ c.index-task.ensures);
    }

pub index_mut-requires-2 : goal.index_mut-requires-2
index_mut-requires-2 g c =
    let within = task_within _ _ c.self.invariant.4 c.args.id.0 _ c.index-task.ensures _ c.self.inside.queues.items _ _ _ c.self.invariant.1 refl in
    search rules

pub leave_commits-requires : goal.leave_commits-requires
leave_commits-requires g c =
    let within = task_within _ _ c.self.invariant.4 c.args.id.0 _ c.index-task.ensures _ c.self.inside.queues.items _ _ _ c.self.invariant.1 refl in
    let ids = ids_of_tile c.self.inside.finished.items c.index-task.result.now.tile c.index_mut-2.result.now _ (search rules) c.index_mut-2.ensures.value refl in
    record {
      finished = λ has. own_finished _ _ c.self.invariant.4 c.args.id.0 _ c.index-task.ensures (subst (λ xs. Contains xs c.args.id.0) (sym ids) has);
    }

pub index_mut-requires-3 : goal.index_mut-requires-3
index_mut-requires-3 g c =
    let within = task_within _ _ c.self.invariant.4 c.args.id.0 _ c.index-task.ensures _ c.self.inside.queues.items _ _ _ c.self.invariant.1 refl in
    search rules

pub leave_core-requires : goal.leave_core-requires
leave_core-requires g c =
    let within = task_within _ _ c.self.invariant.4 c.args.id.0 _ c.index-task.ensures _ c.self.inside.queues.items _ _ _ c.self.invariant.1 refl in
    let held = seen_at (λ cores. core_ids cores.items) c.self.inside.cores.items c.index-task.result.now.tile c.index_mut-3.result.now [] (search rules) c.index_mut-3.ensures.value in
    record {
      held =
          subst (IsHeldAs c.args.id.0 c.index-task.result.now.status) (held ∙ ap core_ids (sym c.deref_mut.ensures.value))
          (own_held _ _ c.self.invariant.4 c.args.id.0 _ c.index-task.ensures);
    }

pub returns-clause-leaves : goal.returns-clause-leaves
returns-clause-leaves g c =
    let within = task_within _ _ c.self.invariant.4 c.args.id.0 _ c.index-task.ensures _ c.self.inside.queues.items _ _ _ c.self.invariant.1 refl in
    let updates = c.remove.ensures.updates in
    let held_now = with_items c.index_mut-3.result.now c.leave_core.new.cores in
    let items : held_now.items ≡ c.leave_core.new.cores = with_items_is c.index_mut-3.result.now c.leave_core.new.cores (search rules) in
    leaves_in c.args.id.0 _ _ _ (ap (λ (v : StateValue). v.view) c.self.view_is)
    (leaves_seen g.N.Naming.image.data_size _ _ _ c.remove.new.self.slots _ _ _ _ _ c.self.inside.queues.items c.self.inside.finished.items _ (λ cores. core_ids cores.items) c.self.inside.cores.items _
    c.args.id.0 c.index-task.result.now c.self.invariant.4 c.index-task.ensures updates.others updates.changed c.index_mut.result.now c.leave_queue.new.queue c.index_mut-2.result.now c.leave_commits.new.waiting
    c.index_mut-3.result.now held_now (search rules) c.index_mut.ensures.value c.leave_queue.ensures.taken (search rules) c.index_mut-2.ensures.value c.leave_commits.ensures (search rules) c.index_mut-3.ensures.value
    (ap core_ids items ∙ c.leave_core.ensures ∙ ap (λ held. map (freed_of c.args.id.0) (core_ids held)) c.deref_mut.ensures.value))

pub invariant_of-self : goal.invariant_of-self
invariant_of-self g c =
    let within = task_within _ _ c.self.invariant.4 c.args.id.0 _ c.index-task.ensures _ c.self.inside.queues.items _ _ _ c.self.invariant.1 refl in
    let updates = c.remove.ensures.updates in
    let leaves = leaves_in c.args.id.0 _ _ _ (sym (ap (λ (v : StateValue). v.view) c.self.view_is)) (returns-clause-leaves g c) in
    let held_now = with_items c.index_mut-3.result.now c.leave_core.new.cores in
    let items : held_now.items ≡ c.leave_core.new.cores = with_items_is c.index_mut-3.result.now c.leave_core.new.cores (search rules) in
    let less = fewer c.args.id.0 c.self.inside.index.candidates (has_candidate _ _ _ _ _ c.self.invariant.5 c.args.id.0 c.index-task.result.now c.index-task.ensures) in (
      c.self.invariant.0,
      tiles_left _ _ _ _ _ _ c.index-task.result.now.tile c.index_mut.result.now c.leave_queue.new.queue c.index_mut-2.result.now c.leave_commits.new.waiting c.self.invariant.1
          (search rules) c.index_mut.ensures.value (ap (λ (q : QueueValue). q.capacity) c.leave_queue.ensures.taken)
          (search rules) c.index_mut-2.ensures.value (ap (λ (q : QueueValue). q.capacity) c.leave_commits.ensures) (search rules),
      all_but_one (λ held. vec_len held ≡ c.self.inside.settings.cores) c.self.inside.cores.items c.index-task.result.now.tile c.index_mut-3.result.now held_now c.self.invariant.2
          (search rules) c.index_mut-3.ensures.value (λ was. search (rules, items, was)),
      slots_left _ _ c.remove.new.self.slots c.self.inside.queues.items _ c.remove.new.self.capacity (length c.remove-2.new.self.candidates) c.remove-2.new.self.capacity c.index-task.result.now.tile
          c.index_mut.result.now c.leave_queue.new.queue c.self.invariant.3 (search rules) c.index_mut.ensures.value c.leave_queue.ensures.one c.remove.ensures.len c.remove.ensures.capacity
          (subst (λ n. n < length c.self.inside.index.candidates) (sym (ap length c.remove-2.ensures.candidates)) less) c.remove-2.ensures.capacity,
      stored_left g.N.Naming.image.data_size _ _ c.args.id.0 leaves c.self.invariant.4,
      indexed_gone _ c.remove.new.self.slots _ _ _ _ c.args.id.0 c.self.invariant.5 updates.others updates.changed _ _ leaves.queues c.remove-2.ensures.candidates,
      noted_left _ c.remove.new.self.slots _ c.args.id.0 updates.changed updates.others c.self.invariant.6,
    )
