use Rattle.std.proofs.Common.{◌≡◌, ◌≢◌, ◌∙◌, sym, ap, subst, ℕ, Bool, List, map, take}
use Rattle.std.specs.Prelude.{AllPairs, IsSome}
use Rattle.abort_cascade.specs.Cascade.{Marked}
use Rattle.memory_law.specs.Tasks.{IsByKey, undone_set}
use Rattle.spec_state.specs.declared.effect.TakenTask.{TakenTask}
use Rattle.spec_state.specs.Effects.{EffectValue, nothing}
use Rattle.spec_state.specs.StateValue.{Scratch}
use Rattle.spec_state.specs.View.{View, task_at}
use Rattle.spec_state.specs.Groups.{logged_tasks}
use Rattle.spec_state.specs.Aborts.{is_marked}
use Rattle.spec_rollback.specs.Pulled.{ListsMarked}
use Rattle.spec_rollback.specs.TakenBack.{TakesThese}
use Rattle.spec_state.specs.Told.{told_at}
use Rattle.spec_rollback.proofs.Aborted.{members_there, telling_from}
use Rattle.spec_rollback.proofs.Told.{tells_members}
use Rattle.spec_rollback.proofs.aborting.abort_marked.Goals as goal

pub tell_marked-requires : goal.tell_marked-requires
tell_marked-requires g c =
    let mid = c.undo_marked.new.state.view in
    let rest = c.undo_marked.ensures.rest
    ∙ ap (λ (v : View). record v { memory = mid.memory }) c.close_marks-found.ensures.view in
    record {
      listed = c.undo_marked.ensures.listed;
      few = c.close_marks-found.ensures.few;
      live = subst (λ (m : List Bool). (id : ℕ) → Marked m id → IsSome (task_at mid id))
          (sym c.undo_marked.ensures.marks)
          (members_there c.args.state.now.view mid c.args.state.now.scratch.marks
          c.close_marks-found.new.state.scratch.marks _ rest c.close_marks-found.ensures.least c.requires.live);
    }

pub release_marked-requires : goal.release_marked-requires
release_marked-requires g c =
    let mid = c.undo_marked.new.state.view in
    let rest = c.undo_marked.ensures.rest
    ∙ ap (λ (v : View). record v { memory = mid.memory }) c.close_marks-found.ensures.view in
    let live = subst (λ (m : List Bool). (id : ℕ) → Marked m id → IsSome (task_at mid id))
    (sym c.undo_marked.ensures.marks)
    (members_there c.args.state.now.view mid c.args.state.now.scratch.marks
    c.close_marks-found.new.state.scratch.marks _ rest c.close_marks-found.ensures.least c.requires.live) in
    let same = sym c.tell_marked.ensures.scratch in
    record {
      listed = subst (λ (s : Scratch). ListsMarked s c.close_marks-found.result) same c.undo_marked.ensures.listed;
      once = subst (λ (s : Scratch). AllPairs (λ a b. a ≢ b) (take c.close_marks-found.result s.members)) same
          c.undo_marked.ensures.once;
      live = subst (λ (s : Scratch). (id : ℕ) → Marked s.marks id → IsSome (task_at c.tell_marked.new.state.view id))
          same
          (subst (λ (v : View). (id : ℕ) → Marked c.undo_marked.new.state.scratch.marks id → IsSome (task_at v id))
          (sym c.tell_marked.ensures.view) live);
    }

told_in : goal.returns-clause-effect
told_in g c =
    let is = c.release_marked.ensures.effect ∙ c.tell_marked.ensures.told in
    is ∙ ap (λ (b : List TakenTask). record nothing { back = b }) (sym (ap (λ (e : EffectValue). e.back) is))

pub returns-clause-effect : goal.returns-clause-effect
returns-clause-effect = told_in

pub returns-clause-aborts : goal.returns-clause-aborts
returns-clause-aborts g c =
    let old = c.args.state.now.view in
    let mid = c.undo_marked.new.state.view in
    let new = c.release_marked.new.state.view in
    let marks = c.close_marks-found.new.state.scratch.marks in
    let rest = c.undo_marked.ensures.rest
    ∙ ap (λ (v : View). record v { memory = mid.memory }) c.close_marks-found.ensures.view in
    telling_from (Marked c.args.state.now.scratch.marks) old mid new marks c.close_marks-found.result
    c.release_marked.new.state.effect.back
    c.close_marks-found.ensures.size c.close_marks-found.ensures.least
    c.close_marks-found.ensures.listed.count rest
    (subst (λ (m : List Bool). TakesThese m (is_marked m) mid new) c.undo_marked.ensures.marks
    (subst (λ (v : View). TakesThese c.undo_marked.new.state.scratch.marks
    (is_marked c.undo_marked.new.state.scratch.marks) v new) c.tell_marked.ensures.view
    (subst (λ (s : Scratch). TakesThese s.marks (is_marked s.marks) c.tell_marked.new.state.view new)
    c.tell_marked.ensures.scratch c.release_marked.ensures.takes)))
    (subst (λ (v : View). (ids : List ℕ) → IsByKey (logged_tasks v) ids
    → mid.memory ≡ undone_set (is_marked marks) (logged_tasks v) ids v.memory) c.close_marks-found.ensures.view
    c.undo_marked.ensures.memory)
    (tells_members old mid marks c.undo_marked.new.state.scratch c.close_marks-found.result
    c.release_marked.new.state.effect.back
    rest c.undo_marked.ensures.marks c.undo_marked.ensures.listed c.undo_marked.ensures.once
    (ap (λ (e : EffectValue). e.back) (c.release_marked.ensures.effect ∙ c.tell_marked.ensures.told)))
