-- What a request does to a task in progress.
use Rattle.std.specs.Prelude.{ℕ, [], ◌∷◌, ◌++◌, Some}
use Rattle.rv_core.specs.declared.state.Stop.{Stop}
use Rattle.rv_core.specs.Legs.{after_other_of, after_load_of}
use Rattle.rv_core.specs.Memory.{load_width}
use Rattle.task_desc.specs.declared.desc.Ctx.{Ctx}
use Rattle.undo_log.specs.Number.{number_at, after_write}
use Rattle.task_request.specs.declared.request.Request.{Request}
use Rattle.task_request.specs.declared.request.Request.TheVariants.{Continue, Load, Store, Enqueue, MakeSub, Emit, End}
use Rattle.task_request.specs.declared.request.Request.TheVariants.{Trap}
use Rattle.task_request.specs.Requests.{request_at}
use Rattle.task_request.specs.TaskState.{TaskState, context}

-- where one instruction leads: on to another state, to the task's end, or to a trap
pub data Continuation : Type 0 where
  Continues : (after : TaskState) → Continuation
  Ends : (after : TaskState) → Continuation
  Traps : (cause pc : ℕ) → Continuation

-- the task at its next instruction
abbrev pub task_at_next : TaskState → TaskState
task_at_next task = record task { core = after_other_of task.core }

-- where a request leads: a load takes its value from the memory and a store changes it, a child and a byte stand
-- last, a subdomain has its kind from then on
abbrev pub after_request : TaskState → Request → Continuation
after_request task Continue = Continues task
after_request task (Load width rd offset) =
    let raw = number_at task.memory offset (load_width width) in
    Continues (record task { core = after_load_of task.core width rd raw })
after_request task (Store offset width value) =
    Continues (record (task_at_next task) { memory = after_write task.memory offset width value })
after_request task (Enqueue child) = Continues (record (task_at_next task) { spawns = task.spawns ++ child ∷ [] })
after_request task (MakeSub kind) = Continues (record (task_at_next task) { sub = Some kind })
after_request task (Emit byte) = Continues (record (task_at_next task) { bytes = task.bytes ++ byte ∷ [] })
after_request task End = Ends (task_at_next task)
after_request task (Trap cause) = Traps cause task.core.pc

-- where the stop of a task's leg leads
abbrev pub after_stop : Ctx → TaskState → Stop → Continuation
after_stop ctx task stop = after_request task (request_at (context ctx task) task.core stop)
