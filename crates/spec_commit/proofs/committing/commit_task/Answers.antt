use Rattle.std.proofs.Common.{◌≡◌, ◌∷◌, ◌++◌, [], ℕ, Some, subst, sym, ap, ◌∙◌}
use Rattle.std.specs.Prelude.{IfSome, IsSome, is_some}
use Rattle.spec_state.specs.declared.task.Creator.TheVariants.{Committed}
use Rattle.spec_state.specs.declared.task.Task.{Task}
use Rattle.spec_state.specs.declared.task.Status.{Status}
use Rattle.spec_state.specs.Tasks.{depth_of, kept_core, own_level}
use Rattle.spec_state.specs.View.{View, task_at}
use Rattle.spec_commit.proofs.Committed.{commits_entered}
use Rattle.spec_commit.proofs.committing.commit_task.Goals as goal

pub enter_commit-entry-requires-clause-closed : goal.enter_commit-entry-requires-clause-closed
enter_commit-entry-requires-clause-closed g c =
    let least = c.requires.least in
    let task : Task = least.0 in
    let there : task_at c.reserve_output.new.state.view c.args.id.0 ≡ Some task =
    subst (λ (v : View). task_at v c.args.id.0 ≡ Some task)
    (sym c.reserve_output.ensures.view) least.1.queued_at.there in
    let formed = c.is_stored.ensures.tasks c.args.id.0 task there in
    subst (λ o. IfSome o (λ (t : Task). IsSome t.key.tb)) (sym there)
    (formed.dispatched ∙ ap (λ (s : Status). is_some (kept_core s task.core)) least.2)

pub returns-clause-ok : goal.returns-clause-ok
returns-clause-ok g c =
    let made = c.reserve_output.new.state.view in
    let id = c.args.id.0 in
    let entry = c.enter_commit-entry.result in
    let least = c.requires.least in
    let task : Task = least.0 in
    let there : task_at made id ≡ Some task = subst (λ (v : View). task_at v id ≡ Some task) (sym c.reserve_output.ensures.view) least.1.queued_at.there in
    commits_entered g.N.Naming.image.data_size id c.args.state.now.view made c.enter_commit-entry.new.state.view c.take_out.new.self.view c.adopt_children.new.state.view
    task entry c.reserve_output.ensures.view c.is_stored.ensures there
    (subst (λ o. IfSome o (λ (t : Task). c.enter_commit-entry.new.state.view
    ≡ record made { history = made.history ++ entry ∷ []; output = made.output ++ t.bytes; path = t.key.domain ++ own_level t ∷ [] }))
    there c.enter_commit-entry.ensures.view)
    c.take_out.ensures.leaves c.adopt_children.ensures.each c.adopt_children.ensures.rest
    (subst (λ o. IfSome o (λ (t : Task). (turn index : ℕ) → t.creator ≡ Committed turn index
    → entry ≡ record { name = record { creator = turn; index = index }; depth = depth_of t; ts = t.key.ts }))
    there c.enter_commit-entry.ensures.entry)
    least
