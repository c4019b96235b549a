use Rattle.std.proofs.Common.{rules, ◌≡◌, ◌∙◌, option_map, length, ap, sym, subst}
use Rattle.spec_state.specs.declared.task.TaskId.{TaskId}
use Rattle.std.specs.Prelude.{IsTrue, IfSome, false}
use Rattle.spec_state.specs.View.{task_at}
use Rattle.spec_state.specs.Least.{HasName}
use Rattle.spec_state.specs.StateValue.{StateValue}
use Rattle.spec_state.proofs.Heirs.{name_seen, has_name, no_name}
use Rattle.spec_state.proofs.state.State.name_of.Goals as goal

pub returns-then-is_firm-clause-some : goal.returns-then-is_firm-clause-some
returns-then-is_firm-clause-some g c =
    let yes : IsTrue c.is_firm.result = search rules in
    subst (λ name. IfSome (task_at c.args.self.now.view c.args.task.0) (λ t. HasName c.args.self.now.view t.creator name)) (sym c.name_given.ensures)
    (name_seen g.N.Naming.image.data_size c.args.self.now.view (option_map (λ (id : TaskId). id.0) c.heir.result) c.args.task.0 c.task-found.result.now c.count.result c.is_stored.ensures c.task-found.ensures
    c.heir.ensures (c.is_firm.ensures.0 yes) (c.count.ensures.count ∙ ap (λ (v : StateValue). length v.view.history) c.self.view_is))

pub returns-then-is_firm-clause-none : goal.returns-then-is_firm-clause-none
returns-then-is_firm-clause-none g c =
    let yes : IsTrue c.is_firm.result = search rules in
    has_name c.args.self.now.view (option_map (λ (id : TaskId). id.0) c.heir.result) c.args.task.0 c.task-found.result.now c.task-found.ensures c.heir.ensures (c.is_firm.ensures.0 yes)

pub returns-else-is_firm-clause-none : goal.returns-else-is_firm-clause-none
returns-else-is_firm-clause-none g c =
    let no : c.is_firm.result ≡ false = search rules in
    no_name c.args.self.now.view (option_map (λ (id : TaskId). id.0) c.heir.result) c.args.task.0 c.task-found.result.now c.task-found.ensures c.heir.ensures
    (λ by. (let yes = c.is_firm.ensures.1 by in cc))
