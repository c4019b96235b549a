-- What each request of a task counts and keeps.
use Rattle.std.proofs.Common.{◌≡◌, ◌≢◌, ◌+◌, ℕ, length, refl}
use Rattle.rv_core.specs.declared.state.Core.{Core}
use Rattle.rv_core.specs.declared.state.Stop.{Stop}
use Rattle.rv_core.specs.declared.state.Stop.TheVariants as stop
use Rattle.task_desc.specs.declared.desc.Ctx.{Ctx}
use Rattle.undo_log.proofs.Proved.{length-after_write}
use Rattle.task_request.specs.declared.request.Request.{Request}
use Rattle.task_request.specs.declared.request.Request.TheVariants.{Continue, Load, Store, Enqueue, MakeSub, Emit, End}
use Rattle.task_request.specs.declared.request.Request.TheVariants.{Trap}
use Rattle.task_request.specs.Requests.{request_at}
use Rattle.task_request.specs.TaskState.{TaskState, context}
use Rattle.task_request.specs.Effects.{Continuation, Continues, Ends, Traps, after_request, after_stop}
use Rattle.task_request.proofs.Asked.{call_at-is}

-- where the task goes on or ends, it has used so many instructions
abbrev pub HasUsed : ℕ → Continuation → Type 0
HasUsed used (Continues task) = task.core.used ≡ used
HasUsed used (Ends task) = task.core.used ≡ used
HasUsed used (Traps cause pc) = Unit {0}

-- where the task goes on or ends, the memory has this size
abbrev pub HasSize : ℕ → Continuation → Type 0
HasSize size (Continues task) = length task.memory ≡ size
HasSize size (Ends task) = length task.memory ≡ size
HasSize size (Traps cause pc) = Unit {0}

-- a request keeps the size of the memory
pub after_request-size : (task : TaskState) (request : Request)
    → HasSize (length task.memory) (after_request task request)
after_request-size task Continue = refl
after_request-size task (Load width rd offset) = refl
after_request-size task (Store offset bytes value) = length-after_write task.memory offset bytes value
after_request-size task (Enqueue child) = refl
after_request-size task (MakeSub kind) = refl
after_request-size task (Emit byte) = refl
after_request-size task End = refl
after_request-size task (Trap cause) = tt

-- a request counts one instruction, but for a trap and one to go on
pub after_request-used : (task : TaskState) (request : Request) → request ≢ Continue
    → HasUsed (task.core.used + 1) (after_request task request)
after_request-used task Continue other = absurd (other refl)
after_request-used task (Load width rd offset) other = refl
after_request-used task (Store offset bytes value) other = refl
after_request-used task (Enqueue child) other = refl
after_request-used task (MakeSub kind) other = refl
after_request-used task (Emit byte) other = refl
after_request-used task End other = refl
after_request-used task (Trap cause) other = tt

-- a task asks to go on only at the end of a quantum
pub request_at-other : (ctx : Ctx) (core : Core) (found : Stop) → found ≢ stop.Quantum
    → request_at ctx core found ≢ Continue
request_at-other ctx core (stop.Load width rd addr) other = λ e. cc
request_at-other ctx core (stop.Store width addr value) other = λ e. cc
request_at-other ctx core stop.Call other =
    call_at-is (λ request. request ≢ Continue) ctx core (λ e. cc) (λ place ts is e. cc) (λ kind is e. cc) (λ is e. cc) (λ cause e. cc)
request_at-other ctx core (stop.Trap cause pc) other = λ e. cc
request_at-other ctx core stop.Quantum other = absurd (other refl)

-- what stands at a stop counts one instruction, but for a trap and the end of a quantum
pub after_stop-used : (ctx : Ctx) (task : TaskState) (found : Stop) → found ≢ stop.Quantum
    → HasUsed (task.core.used + 1) (after_stop ctx task found)
after_stop-used ctx task found other =
    after_request-used task (request_at (context ctx task) task.core found) (request_at-other (context ctx task) task.core found other)
