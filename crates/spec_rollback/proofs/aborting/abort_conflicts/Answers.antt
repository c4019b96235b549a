use Rattle.std.proofs.Common.{arith, sym, ap, subst, ◌∙◌, ℕ, List}
use Rattle.std.specs.Prelude.{IfSome}
use Rattle.memory_law.specs.Tasks.{IsByKey}
use Rattle.spec_state.specs.declared.effect.TakenTask.{TakenTask}
use Rattle.spec_state.specs.Effects.{EffectValue}
use Rattle.spec_state.specs.View.{task_at}
use Rattle.spec_state.specs.Groups.{logged_tasks}
use Rattle.spec_state.specs.Queries.{Conflicts}
use Rattle.spec_rollback.proofs.Aborted.{AbortsTelling, conflicts_told, no_conflict_told}
use Rattle.spec_rollback.proofs.aborting.abort_conflicts.Goals as goal

pub returns-then-found-gt0-clause-aborts : goal.returns-then-found-gt0-clause-aborts
returns-then-found-gt0-clause-aborts g c =
    conflicts_told c.args.state.now.view c.mark_conflicts-found.new.state.view c.abort_marked.new.state.view
    c.abort_marked.result c.abort_marked.new.state.effect.back c.args.line c.args.write c.mark_conflicts-found.result
    c.mark_conflicts-found.new.state.scratch.marks c.args.task.0 c.mark_conflicts-found.ensures.view (omega arith)
    c.mark_conflicts-found.ensures.found c.abort_marked.ensures.aborts

pub returns-else-found-gt0-clause-aborts : goal.returns-else-found-gt0-clause-aborts
returns-else-found-gt0-clause-aborts g c =
    subst (λ (told : List TakenTask). IfSome (task_at c.args.state.now.view c.args.task.0) (λ t. (ids : List ℕ)
    → IsByKey (logged_tasks c.args.state.now.view) ids
    → AbortsTelling (Conflicts c.args.state.now.view t c.args.line c.args.write) c.args.state.now.view 0 told
    c.forget.new.state.view))
    (sym (ap (λ (e : EffectValue). e.back) c.forget.ensures.effect))
    (no_conflict_told g.N.Naming.image.data_size c.args.state.now.view c.forget.new.state.view c.args.line
    c.args.write c.mark_conflicts-found.result
    c.mark_conflicts-found.new.state.scratch.marks c.args.task.0 c.is_stored.ensures
    (c.forget.ensures.view ∙ c.mark_conflicts-found.ensures.view)
    (omega arith) c.mark_conflicts-found.ensures.found)
