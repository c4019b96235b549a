use Rattle.std.proofs.Common.{ℕ, refl, subst, sym}
use Rattle.std.specs.Prelude.{IfSome, IsNone, None, Some, option_map}
use Rattle.std.specs.declared.option.Option.{Option}
use Rattle.script_text.specs.spec_state.declared.task.TaskId.{TaskId}
use Rattle.script_text.specs.spec_state.Least.{IsTheLeast}
use Rattle.script_text.specs.spec_state.View.{View}
use Rattle.script_text.specs.conflict_book.declared.legless.Legless.{Legless}
use Rattle.script_text.specs.conflict_book.Legless.{event_of}
use Rattle.script_text.specs.event_def.declared.event.Event.TheVariants as event
use Rattle.script_text.specs.step_script.Asking.{Hands}
use Rattle.watch_text.specs.Moments.{IsAbout}
use Rattle.watch_text.proofs.about.about_legless.Goals as goal

about_commit : (N : Type 0) (view : View) (found : Option TaskId) → IfSome found (λ id. IsTheLeast view id.0)
    → (IsNone found → (id : ℕ) → IsTheLeast view id → ⊥)
    → IsAbout {N = N} view (Hands event.Commit) (option_map (λ (id : TaskId). id.0) found)
about_commit N view None some none = none refl
about_commit N view (Some id) some none = some

pub returns-in-Commit-clause-task : goal.returns-in-Commit-clause-task
returns-in-Commit-clause-task g c leg =
    let view = c.args.state.now.view in
    subst
    (λ (e : Legless). IsAbout {N = g.row.N.Denot} view (Hands (event_of e))
    (option_map (λ (id : TaskId). id.0) c.least_task.result))
    (sym c.in-Commit.is)
    (about_commit g.row.N.Denot view c.least_task.result c.least_task.ensures.some c.least_task.ensures.none)
