use Rattle.std.proofs.Common.{◌≡◌, ◌∙◌, sym, ap, subst, ℕ, Bool, List}
use Rattle.std.specs.Prelude.{IsSome}
use Rattle.abort_cascade.specs.Cascade.{Marked}
use Rattle.memory_law.specs.Tasks.{IsByKey, undone_set}
use Rattle.spec_state.specs.View.{View, task_at}
use Rattle.spec_state.specs.Groups.{logged_tasks}
use Rattle.spec_state.specs.Aborts.{is_marked}
use Rattle.spec_rollback.specs.Removed.{RemovesThese}
use Rattle.spec_rollback.proofs.Emptied.{all_undone}
use Rattle.spec_rollback.proofs.ending.undo_all.Goals as goal

pub remove_marked-requires : goal.remove_marked-requires
remove_marked-requires g c =
    let old = c.args.state.now.view in
    let mid = c.undo_marked.new.state.view in
    let rest : mid ≡ record old { memory = mid.memory } = c.undo_marked.ensures.rest
    ∙ ap (λ (v : View). record v { memory = mid.memory }) c.list_all-found.ensures.view in
    record {
      listed = c.undo_marked.ensures.listed;
      once = c.undo_marked.ensures.once;
      live = subst (λ (m : List Bool). (id : ℕ) → Marked m id → IsSome (task_at mid id))
          (sym c.undo_marked.ensures.marks)
          (λ id marked. subst (λ (v : View). IsSome (task_at v id)) (sym rest)
          ((c.list_all-found.ensures.marks id).0 marked));
    }

pub returns : goal.returns
returns g c =
    let old = c.args.state.now.view in
    let mid = c.undo_marked.new.state.view in
    let removed = c.remove_marked.new.state.view in
    let marks = c.list_all-found.new.state.scratch.marks in
    let same = c.list_all-found.ensures.view in
    all_undone g.N.Naming.image.data_size old mid removed c.drop_spilled.new.state.view marks c.has_lists.ensures
    (c.undo_marked.ensures.rest ∙ ap (λ (v : View). record v { memory = mid.memory }) same)
    (λ id there. (c.list_all-found.ensures.marks id).1 there)
    (subst (λ (m : List Bool). RemovesThese (is_marked m) mid removed) c.undo_marked.ensures.marks
    c.remove_marked.ensures.removes)
    c.is_stored.ensures c.drop_spilled.ensures
    (subst (λ (v : View). (ids : List ℕ) → IsByKey (logged_tasks v) ids
    → mid.memory ≡ undone_set (is_marked marks) (logged_tasks v) ids v.memory) same c.undo_marked.ensures.memory)
