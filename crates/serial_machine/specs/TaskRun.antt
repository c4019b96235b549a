-- The run of a task, from its start to its end call or to a trap.
use Rattle.std.specs.Prelude.{ℕ, zero, suc, List, length}
use Rattle.guest_image.specs.ImageValue.{ImageValue}
use Rattle.rv_core.specs.Next.{Next, Goes, Stops}
use Rattle.rv_core.specs.Legs.{next_at}
use Rattle.task_desc.specs.declared.desc.Ctx.{Ctx}
use Rattle.task_request.specs.TaskState.{TaskState}
pub use Rattle.task_request.specs.TaskState.{task_at_start, context}
pub use Rattle.task_request.specs.Effects.{Continuation, Continues, Ends, Traps, after_stop}

-- how a task's run is over
pub data TaskEnd : Type 0 where
  Done : (after : TaskState) → TaskEnd
  Trapped : (cause pc : ℕ) → TaskEnd

-- where what stands next at a task's core leads: a plain instruction to its core, and any other to what the task
-- asks for
abbrev pub after_next : Ctx → TaskState → Next → Continuation
after_next ctx task (Goes core) = Continues (record task { core = core })
after_next ctx task (Stops found) = after_stop ctx task found

-- one instruction of a task
abbrev pub after_instruction : ImageValue → ℕ → Ctx → TaskState → Continuation
after_instruction image budget ctx task = after_next ctx task (next_at image (length task.memory) budget task.core)

-- where a task's run leads behind an instruction
abbrev pub task_end_after : (TaskState → TaskEnd) → Continuation → TaskEnd
task_end_after rest (Continues task) = rest task
task_end_after rest (Ends task) = Done task
task_end_after rest (Traps cause pc) = Trapped cause pc

-- instructions, at most so many of them: where none is left, the budget is used up
abbrev pub after_instructions : ImageValue → ℕ → Ctx → ℕ → TaskState → TaskEnd
after_instructions image budget ctx zero task = Trapped 17 task.core.pc
after_instructions image budget ctx (suc left) task =
    task_end_after (after_instructions image budget ctx left) (after_instruction image budget ctx task)

-- the run of a task on a memory: instructions from its start up to its end call or a trap
unfoldable pub task_run : ImageValue → ℕ → Ctx → ℕ → List ℕ → List ℕ → TaskEnd
task_run image budget ctx entry args memory =
    after_instructions image budget ctx budget (task_at_start image.version entry ctx.ts args memory)
