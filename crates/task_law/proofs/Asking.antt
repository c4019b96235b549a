-- What holds along a task's run by its log, by what the task asks for.
use Rattle.std.proofs.Common.{ℕ, List, subst}
use Rattle.guest_image.specs.ImageValue.{ImageValue}
use Rattle.rv_core.specs.declared.state.Core.{Core}
use Rattle.task_desc.specs.declared.desc.Ctx.{Ctx}
use Rattle.undo_log.specs.declared.access.Access.{Access}
use Rattle.task_request.specs.declared.request.Request.{Request}
use Rattle.task_request.specs.Effects.{after_request}
use Rattle.task_request.specs.TaskState.{TaskState, context}
use Rattle.task_request.proofs.Proved.{AllowedBy, request_at-allowed_spawn}
use Rattle.run_law.proofs.Below.serial_machine.Proved.{HoldsAfter}
use Rattle.task_law.specs.Logged.{CoreAsks, LoggedRun, none, plain, call, load, store}

module _ (image : ImageValue) (budget size : ℕ) (ctx : Ctx) where
  -- the rules of calls allow what a task asks for
  pub asks-allowed : (task : TaskState) (request : Request) → CoreAsks image budget size ctx task request
      → AllowedBy (context ctx task) request
  asks-allowed task request asks =
      subst (AllowedBy (context ctx task)) asks.asks (request_at-allowed_spawn (context ctx task) task.core asks.found)

  -- what each instruction and each request that is allowed keeps holds along the run
  module _ (Holds : TaskState → Type 0) (start : TaskState) (moves : (task : TaskState) (core : Core) → Holds task → Holds (record task { core = core }))
      (asked : (task : TaskState) (request : Request) → AllowedBy (context ctx task) request → Holds task → HoldsAfter Holds (after_request task request)) where
    pub logged-holds : {log : List Access} {task : TaskState} → LoggedRun image budget size ctx start log task
        → Holds start → Holds task
    logged-holds none here = here
    logged-holds (plain {log} {task} core run at) here = moves task core (logged-holds run here)
    logged-holds (call {log} {task} request after run asks is_call goes) here =
        subst (HoldsAfter Holds) goes (asked task request (asks-allowed task request asks) (logged-holds run here))
    logged-holds (load {log} {task} access width rd run asks is_width is_load) here =
        moves task _ (logged-holds run here)
    logged-holds (store {log} {task} access value run asks is_store) here = moves task _ (logged-holds run here)
