-- A task that takes a leg is the one of its id, and what it asks for keeps the limits.
use Rattle.std.proofs.Common.{◌≡◌, ℕ, Some, sym, ap, subst, ◌∙◌}
use Rattle.std.proofs.lemmas.Option.{same_Some}
use Rattle.rv_core.specs.LegValue.{LegValue}
use Rattle.task_request.specs.Conditions.{KeepsLimits}
use Rattle.task_request.specs.declared.request.Request.{Request}
use Rattle.task_request.proofs.Proved.{allowed_by-limits, AllowedBy, request_at-allowed_spawn}
use Rattle.spec_dispatch.specs.spec_state.declared.task.Task.{Task}
use Rattle.spec_dispatch.specs.spec_state.View.{View, task_at}
use Rattle.spec_dispatch.specs.spec_state.Tasks.{context_of}
use Rattle.spec_dispatch.specs.spec_state.Changes.{request_of}
use Rattle.spec_access.specs.Asking.{Asks}

module _ (view seen : View) (leg : LegValue) (id : ℕ) (request : Request) (task : Task)
    (asks : Asks view leg id request) (same : seen ≡ view)
    (there : task_at seen id ≡ Some task) where
  -- the task of this id is the one that asks
  pub same_task : asks.task ≡ task
  same_task = same_Some asks.task task (sym asks.takes.runs.on.there ∙ ap (λ v. task_at v id) (sym same) ∙ there)

  pub asked_is : request_of view task leg ≡ request
  asked_is = ap (λ t. request_of view t leg) (sym same_task) ∙ asks.asks

  -- its rules allow what it asks for
  pub asked_allowed : AllowedBy (context_of view.version task) request
  asked_allowed = subst (AllowedBy (context_of view.version task)) asked_is
      (request_at-allowed_spawn (context_of view.version task) leg.to leg.stop)

  pub asks_limits : KeepsLimits (context_of view.version task) request
  asks_limits = allowed_by-limits (context_of view.version task) request asked_allowed
