-- What each instruction of a task keeps holds of a task that is done.
use Rattle.std.proofs.Common.{◌≡◌, ℕ, zero, suc, List, length, refl, ◌∙◌}
use Rattle.guest_image.specs.ImageValue.{ImageValue}
use Rattle.rv_core.specs.declared.state.Core.{Core}
use Rattle.rv_core.specs.Next.{Next, Goes, Stops}
use Rattle.rv_core.specs.Legs.{next_at}
use Rattle.task_desc.specs.declared.desc.Ctx.{Ctx}
use Rattle.task_request.specs.declared.request.Request.{Request}
use Rattle.task_request.specs.declared.request.Request.TheVariants as request
use Rattle.task_request.specs.Requests.{request_at}
use Rattle.task_request.specs.TaskState.{TaskState}
use Rattle.task_request.specs.Effects.{after_request}
use Rattle.task_request.proofs.Proved.{after_request-size, AllowedBy, HasSize, request_at-allowed_spawn}
use Rattle.task_request.proofs.Proved.{sub_allowed-limits}
use Rattle.serial_machine.specs.Legs.{SubFits}
use Rattle.serial_machine.specs.TaskRun.{context, task_at_start, after_next, after_instruction, task_end_after}
use Rattle.serial_machine.specs.TaskRun.{after_instructions, task_run, Continuation, Continues, Ends, Traps, TaskEnd}
use Rattle.serial_machine.specs.TaskRun.{Done, Trapped}

module _ (Holds : TaskState → Type 0) where
  -- where the task goes on or ends behind an instruction, this holds of it
  abbrev pub HoldsAfter : Continuation → Type 0
  HoldsAfter (Continues task) = Holds task
  HoldsAfter (Ends task) = Holds task
  HoldsAfter (Traps cause pc) = Unit {0}

  -- where the run is done, this holds of the task
  abbrev pub EndHolds : TaskEnd → Type 0
  EndHolds (Done task) = Holds task
  EndHolds (Trapped cause pc) = Unit {0}

  task_end_after-holds : (rest : TaskState → TaskEnd) (x : Continuation) → HoldsAfter x
      → ((t : TaskState) → Holds t → EndHolds (rest t)) → EndHolds (task_end_after rest x)
  task_end_after-holds rest (Continues task) here on = on task here
  task_end_after-holds rest (Ends task) here on = here
  task_end_after-holds rest (Traps cause pc) here on = tt

  -- each plain instruction keeps it, and so does each request that the rules of calls allow
  module _ (image : ImageValue) (budget : ℕ) (ctx : Ctx) (moves : (task : TaskState) (core : Core) → Holds task → Holds (record task { core = core }))
      (asks : (task : TaskState) (asked : Request) → AllowedBy (context ctx task) asked → Holds task → HoldsAfter (after_request task asked)) where
    pub after_instruction-holds : (task : TaskState) (next : Next) → Holds task → HoldsAfter (after_next ctx task next)
    after_instruction-holds task (Goes core) here = moves task core here
    after_instruction-holds task (Stops found) here =
        asks task (request_at (context ctx task) task.core found) (request_at-allowed_spawn (context ctx task) task.core found) here

    pub after_instructions-hold : (left : ℕ) (task : TaskState) → Holds task
        → EndHolds (after_instructions image budget ctx left task)
    after_instructions-hold zero task here = tt
    after_instructions-hold (suc left) task here =
        task_end_after-holds (after_instructions image budget ctx left) (after_instruction image budget ctx task)
        (after_instruction-holds task (next_at image (length task.memory) budget task.core) here)
        (after_instructions-hold left)

    -- so it holds of a task that is done, where it held of the task that had done nothing
    pub task_run-holds : (entry : ℕ) (args memory : List ℕ)
        → Holds (task_at_start image.version entry ctx.ts args memory)
        → EndHolds (task_run image budget ctx entry args memory)
    unfolding task_run
    task_run-holds entry args memory here =
        after_instructions-hold budget (task_at_start image.version entry ctx.ts args memory) here

-- a task at the greatest depth makes no subdomain
pub request-sub_fits : (ctx : Ctx) (task : TaskState) (asked : Request) → AllowedBy (context ctx task) asked
    → SubFits ctx.depth task.sub
    → HoldsAfter (λ t. SubFits ctx.depth t.sub) (after_request task asked)
request-sub_fits ctx task request.Continue allows fits = fits
request-sub_fits ctx task (request.Load width rd offset) allows fits = fits
request-sub_fits ctx task (request.Store offset bytes value) allows fits = fits
request-sub_fits ctx task (request.Enqueue child) allows fits = fits
request-sub_fits ctx task (request.MakeSub kind) allows fits =
    (sub_allowed-limits (context ctx task) allows.0 kind allows.1).1
request-sub_fits ctx task (request.Emit byte) allows fits = fits
request-sub_fits ctx task request.End allows fits = fits
request-sub_fits ctx task (request.Trap cause) allows fits = tt

-- nor has it made one when it is done
pub task_run-sub_fits : (image : ImageValue) (budget : ℕ) (ctx : Ctx) (entry : ℕ) (args memory : List ℕ)
    → EndHolds (λ task. SubFits ctx.depth task.sub) (task_run image budget ctx entry args memory)
task_run-sub_fits image budget ctx entry args memory =
    task_run-holds (λ task. SubFits ctx.depth task.sub) image budget ctx (λ task core fits. fits) (request-sub_fits ctx) entry args memory tt

-- a task that is done leaves a memory of the size that it began with
pub task_run-size : (image : ImageValue) (budget : ℕ) (ctx : Ctx) (entry : ℕ) (args memory : List ℕ)
    → EndHolds (λ task. length task.memory ≡ length memory) (task_run image budget ctx entry args memory)
task_run-size image budget ctx entry args memory =
    task_run-holds Sized image budget ctx (λ task core sized. sized) asks entry args memory refl
  where
    Sized : TaskState → Type 0
    Sized task = length task.memory ≡ length memory

    same : (x : Continuation) (size : ℕ) → size ≡ length memory → HasSize size x → HoldsAfter Sized x
    same (Continues task) size e has = has ∙ e
    same (Ends task) size e has = has ∙ e
    same (Traps cause pc) size e has = tt

    asks : (task : TaskState) (asked : Request) → AllowedBy (context ctx task) asked → Sized task
        → HoldsAfter Sized (after_request task asked)
    asks task asked allows sized =
        same (after_request task asked) (length task.memory) sized (after_request-size task asked)
