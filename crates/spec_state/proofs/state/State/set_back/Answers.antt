use Rattle.std.proofs.Common.{rules, ◌≡◌, [], map, sym, ap, subst, refl, ◌∙◌, None, Some, slice_set, length, arith}
use Rattle.std.specs.Prelude.{Contains}
use Rattle.std.specs.Vec.{with_items}
use Rattle.std.proofs.lemmas.List.{with_items_is, get_or-set_same, get_or-set_other}
use Rattle.spec_state.specs.declared.task.Task.{Task}
use Rattle.spec_state.specs.Leaving.{freed_of, IsHeldAs}
use Rattle.spec_state.specs.StateValue.{StateValue}
use Rattle.spec_state.specs.View.{core_ids}
use Rattle.spec_state.proofs.Moved.{has_candidate}
use Rattle.spec_state.proofs.Renumbered.{below_slots, ids_of_tile}
use Rattle.spec_state.proofs.Without.{seen_at}
use Rattle.spec_state.proofs.Vacated.{own_finished, own_held, stored_back}
use Rattle.spec_state.proofs.Kept.{same_count, slots_kept}
use Rattle.spec_state.proofs.Noted.{noted_set}
use Rattle.commit_arbiter.specs.Indexed.{candidate_cmp, without_candidate}
use Rattle.fractal_vt.specs.Sorted.{after_insert}
use Rattle.spec_state.specs.Stored.{candidate_of}
use Rattle.spec_state.proofs.Left.{task_within, back_in, back_seen, indexed_again}
use Rattle.spec_state.proofs.state.State.set_back.Goals as goal

pub index_mut-requires : goal.index_mut-requires
index_mut-requires g c =
    let within = task_within _ _ c.self.invariant.4 c.args.id.0 _ c.index_mut-task.ensures.value _ c.self.inside.queues.items _ _ _ c.self.invariant.1 refl in
    search rules

pub leave_commits-requires : goal.leave_commits-requires
leave_commits-requires g c =
    let within = task_within _ _ c.self.invariant.4 c.args.id.0 _ c.index_mut-task.ensures.value _ c.self.inside.queues.items _ _ _ c.self.invariant.1 refl in
    let ids = ids_of_tile c.self.inside.finished.items c.index_mut-task.result.now.tile c.index_mut.result.now _ (search rules) c.index_mut.ensures.value refl in
    record {
      finished = λ has. own_finished _ _ c.self.invariant.4 c.args.id.0 _ c.index_mut-task.ensures.value (subst (λ xs. Contains xs c.args.id.0) (sym ids) has);
    }

pub index_mut-requires-2 : goal.index_mut-requires-2
index_mut-requires-2 g c =
    let within = task_within _ _ c.self.invariant.4 c.args.id.0 _ c.index_mut-task.ensures.value _ c.self.inside.queues.items _ _ _ c.self.invariant.1 refl in
    search rules

pub leave_core-requires : goal.leave_core-requires
leave_core-requires g c =
    let within = task_within _ _ c.self.invariant.4 c.args.id.0 _ c.index_mut-task.ensures.value _ c.self.inside.queues.items _ _ _ c.self.invariant.1 refl in
    let held = seen_at (λ cores. core_ids cores.items) c.self.inside.cores.items c.index_mut-task.result.now.tile c.index_mut-2.result.now [] (search rules) c.index_mut-2.ensures.value in
    record {
      held =
          subst (IsHeldAs c.args.id.0 c.index_mut-task.result.now.status) (held ∙ ap core_ids (sym c.deref_mut.ensures.value))
          (own_held _ _ c.self.invariant.4 c.args.id.0 _ c.index_mut-task.ensures.value);
    }

pub open-requires : goal.open-requires
open-requires g c = has_candidate _ _ _ _ _ c.self.invariant.5 c.args.id.0 _ c.index_mut-task.ensures.value

pub returns-clause-back : goal.returns-clause-back
returns-clause-back g c =
    let within = task_within _ _ c.self.invariant.4 c.args.id.0 _ c.index_mut-task.ensures.value _ c.self.inside.queues.items _ _ _ c.self.invariant.1 refl in
    let below = below_slots c.self.inside.tasks.slots c.args.id.0 _ c.index_mut-task.ensures.value in
    let held_now = with_items c.index_mut-2.result.now c.leave_core.new.cores in
    let items : held_now.items ≡ c.leave_core.new.cores = with_items_is c.index_mut-2.result.now c.leave_core.new.cores (search rules) in
    back_in c.args.id.0 _ _ _ (ap (λ (v : StateValue). v.view) c.self.view_is)
    (back_seen g.N.Naming.image.data_size _ _ _ (slice_set c.self.inside.tasks.slots c.args.id.0 (Some c.reset.new.task)) _ _ _ _ _ c.self.inside.queues.items c.self.inside.finished.items _
    (λ cores. core_ids cores.items) c.self.inside.cores.items _ c.args.id.0 c.index_mut-task.result.now c.self.invariant.4 c.index_mut-task.ensures.value
    (λ k other. get_or-set_other c.self.inside.tasks.slots c.args.id.0 k (Some c.reset.new.task) None other)
    (get_or-set_same c.self.inside.tasks.slots c.args.id.0 (Some c.reset.new.task) None below ∙ ap Some c.reset.ensures)
    c.index_mut.result.now c.leave_commits.new.waiting c.index_mut-2.result.now held_now (search rules) c.index_mut.ensures.value c.leave_commits.ensures (search rules) c.index_mut-2.ensures.value
    (ap core_ids items ∙ c.leave_core.ensures ∙ ap (λ held. map (freed_of c.args.id.0) (core_ids held)) c.deref_mut.ensures.value))

pub invariant_of-self : goal.invariant_of-self
invariant_of-self g c =
    let within = task_within _ _ c.self.invariant.4 c.args.id.0 _ c.index_mut-task.ensures.value _ c.self.inside.queues.items _ _ _ c.self.invariant.1 refl in
    let back = back_in c.args.id.0 _ _ _ (sym (ap (λ (v : StateValue). v.view) c.self.view_is)) (returns-clause-back g c) in
    let below = below_slots c.self.inside.tasks.slots c.args.id.0 _ c.index_mut-task.ensures.value in (
      c.self.invariant.0,
      search rules,
      search rules,
      slots_kept _ _ (slice_set c.self.inside.tasks.slots c.args.id.0 (Some c.reset.new.task)) c.self.inside.queues.items _ (length c.open.new.self.candidates) c.open.new.self.capacity c.self.invariant.3
          (same_count c.self.inside.tasks.slots c.args.id.0 _ c.reset.new.task c.index_mut-task.ensures.value) (omega (arith, c.open.ensures.count)) c.open.ensures.capacity,
      stored_back g.N.Naming.image.data_size _ _ c.args.id.0 back c.self.invariant.4,
      indexed_again _ (slice_set c.self.inside.tasks.slots c.args.id.0 (Some c.reset.new.task)) _ _ _ _ c.args.id.0 c.self.invariant.5
          (λ k other. get_or-set_other c.self.inside.tasks.slots c.args.id.0 k (Some c.reset.new.task) None other) c.reset.new.task
          (get_or-set_same c.self.inside.tasks.slots c.args.id.0 (Some c.reset.new.task) None below) _
          (c.open.ensures.candidates (candidate_of c.self.inside.arrivals.items c.args.id.0 c.index_mut-task.result.now) (c.self.invariant.5.all c.args.id.0 _ c.index_mut-task.ensures.value) refl
          ∙ ap (λ (t : Task). after_insert candidate_cmp (candidate_of c.self.inside.arrivals.items c.args.id.0 t) (without_candidate c.args.id.0 c.self.inside.index.candidates)) (sym c.reset.ensures)),
      noted_set c.self.inside.tasks.slots _ c.args.id.0 _ c.reset.new.task c.index_mut-task.ensures.value (ap (λ (t : Task). t.creator) c.reset.ensures) c.self.invariant.6,
    )
