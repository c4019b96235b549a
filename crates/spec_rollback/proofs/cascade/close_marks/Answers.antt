use Rattle.std.proofs.Common.{rules, arith, ◌∙◌, ◌≤◌, sym, ap, subst, length, map, ℕ, Bool, List, take, drop, ◌++◌}
use Rattle.std.proofs.lemmas.List.{length-map}
use Rattle.tile_queues.specs.Queue.{QueueValue}
use Rattle.std.specs.Prelude.{IsSome}
use Rattle.std.proofs.lemmas.List.Sums.{count_by-le-length}
use Rattle.abort_cascade.specs.Cascade.{Marked}
use Rattle.spec_state.specs.StateValue.{StateValue}
use Rattle.spec_state.specs.View.{core_ids, task_at}
use Rattle.spec_state.proofs.Proved.{few_tasks}
use Rattle.spec_rollback.specs.Pulled.{ListsMarked}
use Rattle.spec_rollback.proofs.Pulled.{few_members}
use Rattle.spec_rollback.proofs.Conflicting.{live_in, stands_in}
use Rattle.spec_rollback.proofs.Marked.{put_back}
use Rattle.spec_rollback.proofs.cascade.close_marks.Goals as goal

pub close_listed-requires-clause-knows : goal.close_listed-requires-clause-knows
close_listed-requires-clause-knows g c =
    let tiles = c.state.invariant.1 in
    let many = length-map c.state.inside.queues.items (λ (q : QueueValue). q.ids) in
    let all : length (map (λ (q : QueueValue). q.ids) c.state.inside.queues.items) ≤ length c.as_slice.result.now =
    omega (arith, many, tiles, c.as_slice.ensures.len) in
    record {
      noted = c.state.invariant.6;
      queues = omega (arith, tiles, c.as_slice.ensures.len, c.as_slice-2.ensures.len);
      live = live_in g.N.Naming.image.data_size _ c.state.invariant.4
          (record { cores = c.as_slice.result; finished = c.as_slice-2.result })
          (ap (map (λ held. core_ids held.items)) c.as_slice.ensures.value)
          (ap (map (λ (q : QueueValue). q.ids)) c.as_slice-2.ensures.value);
      dispatched = λ id task at runs. stands_in g.N.Naming.image.data_size _ c.state.invariant.4
          (record { cores = c.as_slice.result; finished = c.as_slice-2.result })
          (ap (map (λ held. core_ids held.items)) c.as_slice.ensures.value)
          (ap (map (λ (q : QueueValue). q.ids)) c.as_slice-2.ensures.value) all id task at runs;
    }

pub returns-clause-size : goal.returns-clause-size
returns-clause-size g c =
    let marks = put_back c.state.inside.marks.len c.close_listed.new.marks c.state.inside.marks.items (search rules)
    (search rules) in
    let long = ap length marks in
    let tasks = ap (λ (v : StateValue). length v.view.tasks) c.state.view_is in
    let slots = c.state.invariant.3.marks in
    omega (arith, long, tasks, slots, c.capacity-slots.ensures)

pub returns-clause-listed : goal.returns-clause-listed
returns-clause-listed g c =
    let marks = put_back c.state.inside.marks.len c.close_listed.new.marks c.state.inside.marks.items (search rules)
    (search rules) in
    let members = put_back c.state.inside.members.len c.close_listed.new.members c.state.inside.members.items
    (search rules)
    (search rules) in
    subst (λ (m : List Bool). ListsMarked
    (record {
      marks = m;
      members = take c.state.inside.members.len
          (c.close_listed.new.members ++ drop (length c.close_listed.new.members) c.state.inside.members.items);
    }) c.close_listed.result)
    (sym marks)
    (subst (λ (m : List ℕ).
    ListsMarked (record { marks = c.close_listed.new.marks; members = m }) c.close_listed.result)
    (sym members)
    (record {
      marked = c.close_listed.ensures.listed;
      count = c.close_listed.ensures.size;
      within = (let upto = count_by-le-length (λ (mark : Bool). mark) c.close_listed.new.marks in omega (
        arith,
        upto,
        c.close_listed.ensures.size,
        c.close_listed.auto,
        c.as_mut_slice.ensures,
        c.as_mut_slice-2.ensures,
        c.state.invariant.3.marks,
        c.state.invariant.3.members,
      ));
    }))

pub returns-clause-few : goal.returns-clause-few
returns-clause-few g c =
    let firsts = ap (λ (v : StateValue). v.scratch.marks) c.state.view_is in
    let there : (id : ℕ) → Marked c.as_mut_slice.result.now id → IsSome (task_at c.args.state.now.view id) =
    λ id marked. c.requires.live id
    (subst (λ (m : List Bool). Marked m id) (c.as_mut_slice.ensures.value ∙ firsts) marked) in
    let members = few_members c.args.state.now.view c.state.inside.settings.line c.state.inside.tasks.slots
    c.as_mut_slice.result.now c.close_listed.new.marks c.state.inside.tasks.capacity
    (ap (λ (v : StateValue). v.view.settings.line) c.state.view_is) (ap (λ (v : StateValue). v.view.tasks) c.state.view_is)
    c.close_listed.ensures.least there in
    let tasks = few_tasks _ _ _ _ _ _ _ c.state.invariant.0.valid c.state.invariant.1 c.state.invariant.3
    in
    omega (arith, members, tasks, c.close_listed.ensures.size)
