use Rattle.std.proofs.Common.{rules, arith, ◌∙◌, sym, ap, subst, length, ℕ, Bool, List, take}
use Rattle.std.specs.List.Sorted.{IsPermutation}
use Rattle.undo_log.specs.Undo.{AllAccessible}
use Rattle.spec_state.specs.StateValue.{StateValue}
use Rattle.spec_rollback.specs.Pulled.{ListsMarked}
use Rattle.spec_rollback.proofs.Marked.{put_back, listed_permuted, members_once}
use Rattle.spec_rollback.proofs.Undone.{stored_memory, marked_undone}
use Rattle.spec_rollback.proofs.undoing.undo_marked.Goals as goal

pub undo_latest_first-requires : goal.undo_latest_first-requires
undo_latest_first-requires g c =
    let members = ap (λ (v : StateValue). length v.scratch.members) c.state.view_is in
    let held = ap length c.as_mut_slice.ensures.value in
    let within = c.requires.listed.within in
    record {
      within = omega (arith, members, held, within);
      logs = λ k task at. subst (λ n. AllAccessible n task.log) (sym c.state.invariant.4.memory)
          (c.state.invariant.4.tasks k task at).accesses;
    }

pub invariant_of-state : goal.invariant_of-state
invariant_of-state g c =
    let stored = stored_memory g.N.Naming.image.data_size _ c.undo_latest_first.new.memory c.state.invariant.4
    c.undo_latest_first.ensures.size in
    (c.state.invariant.0, c.state.invariant.1, c.state.invariant.2, c.state.invariant.3, stored, c.state.invariant.5, c.state.invariant.6)

pub returns-clause-listed : goal.returns-clause-listed
returns-clause-listed g c =
    let members = put_back c.state.inside.members.len c.undo_latest_first.new.members c.state.inside.members.items
    (search rules) (search rules) in
    let was : ListsMarked (record { marks = c.state.inside.marks.items; members = c.state.inside.members.items })
    c.args.found =
    subst (λ (v : StateValue). ListsMarked v.scratch c.args.found) (sym c.state.view_is) c.requires.listed in
    let moved : IsPermutation (take c.args.found c.state.inside.members.items)
    (take c.args.found c.undo_latest_first.new.members) =
    subst (λ (m : List ℕ). IsPermutation (take c.args.found m) (take c.args.found c.undo_latest_first.new.members))
    c.as_mut_slice.ensures.value c.undo_latest_first.ensures.permutation in
    subst (λ (m : List ℕ). ListsMarked (record { marks = c.state.inside.marks.items; members = m }) c.args.found)
    (sym members)
    (listed_permuted c.state.inside.marks.items c.state.inside.members.items c.undo_latest_first.new.members
    c.args.found was moved
    (c.undo_latest_first.ensures.count ∙ ap length c.as_mut_slice.ensures.value))

pub returns-clause-once : goal.returns-clause-once
returns-clause-once g c = members_once _ c.args.found (returns-clause-listed g c)

pub returns-clause-memory : goal.returns-clause-memory
returns-clause-memory g c =
    let members = put_back c.state.inside.members.len c.undo_latest_first.new.members c.state.inside.members.items
    (search rules) (search rules) in
    let listed : ListsMarked
    (record { marks = c.state.inside.marks.items; members = c.undo_latest_first.new.members }) c.args.found =
    subst (λ (m : List ℕ). ListsMarked (record { marks = c.state.inside.marks.items; members = m }) c.args.found)
    members (returns-clause-listed g c) in
    let marks = ap (λ (v : StateValue). v.scratch.marks) c.state.view_is in
    marked_undone c.args.state.now.view c.state.inside.tasks.slots c.state.inside.memory
    c.undo_latest_first.new.memory c.args.state.now.scratch c.args.found c.undo_latest_first.new.members
    (ap (λ (v : StateValue). v.view.tasks) c.state.view_is) (ap (λ (v : StateValue). v.view.memory) c.state.view_is)
    (subst (λ (m : List Bool). ListsMarked (record { marks = m; members = c.undo_latest_first.new.members })
    c.args.found) marks listed)
    c.undo_latest_first.ensures.falls c.undo_latest_first.ensures.undone
