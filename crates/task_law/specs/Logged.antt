-- A task's run by its log: the loads take the numbers that the log has, and the stores are those of the log.
use Rattle.std.specs.Prelude.{◌≡◌, ℕ, ◌+◌, List, [], ◌∷◌, ◌++◌, length, Some, None}
use Rattle.guest_image.specs.ImageValue.{ImageValue}
use Rattle.rv_table.specs.declared.instr.LoadWidth.{LoadWidth}
use Rattle.rv_core.specs.declared.state.Core.{Core}
use Rattle.rv_core.specs.declared.state.Stop.{Stop}
use Rattle.rv_core.specs.Next.{Goes, Stops}
use Rattle.rv_core.specs.Legs.{next_at, after_load_of}
use Rattle.rv_core.specs.Memory.{load_width}
use Rattle.task_desc.specs.declared.desc.Ctx.{Ctx}
use Rattle.task_request.specs.declared.request.Request.{Request}
use Rattle.task_request.specs.declared.request.Request.TheVariants.{Load, Store, End, Trap}
use Rattle.task_request.specs.Conditions.{IsCall}
use Rattle.task_request.specs.Requests.{request_at}
use Rattle.task_request.specs.Effects.{Continues, after_request, task_at_next}
use Rattle.task_request.specs.TaskState.{TaskState, task_at_start, context}
use Rattle.undo_log.specs.declared.access.Access.{Access}
use Rattle.memory_law.specs.Accesses.{after_accesses, Replays}
use Rattle.pending_list.specs.declared.task.PendingTask.{PendingTask}
use Rattle.run_law.specs.serial_machine.State.{SerialState}
use Rattle.run_law.specs.serial_machine.Turn.{context_in_bag, stack_after, turn, TrapsSo}
use Rattle.task_law.specs.Commit.{HasTurn}

module _ (image : ImageValue) (budget size : ℕ) (ctx : Ctx) where
  -- what stands next at the task's core, with data of this size, asks for this
  pub record CoreAsks (task : TaskState) (request : Request) : Type 0 where
    pub found : Stop
    pub stands : next_at image size budget task.core ≡ Stops found
    pub asks : request_at (context ctx task) task.core found ≡ request

  -- the instructions of a task from its start on that led to a state and a log, for a memory of this size; the memory
  -- itself is not read
  pub data LoggedRun (start : TaskState) : List Access → TaskState → Type 0 where
    none : LoggedRun start [] start
    plain : {log : List Access} {task : TaskState} (core : Core) → LoggedRun start log task
        → next_at image size budget task.core ≡ Goes core → LoggedRun start log (record task { core = core })
    call : {log : List Access} {task : TaskState} (request : Request) (after : TaskState) → LoggedRun start log task
        → CoreAsks task request → IsCall request → after_request task request ≡ Continues after
        → LoggedRun start log after
    load : {log : List Access} {task : TaskState} (access : Access) (width : LoadWidth) (rd : ℕ)
        → LoggedRun start log task
        → CoreAsks task (Load width rd access.offset) → access.width ≡ load_width width → access.new ≡ None
        → LoggedRun start (log ++ access ∷ []) (record task { core = after_load_of task.core width rd access.old })
    store : {log : List Access} {task : TaskState} (access : Access) (value : ℕ) → LoggedRun start log task
        → CoreAsks task (Store access.offset access.width value) → access.new ≡ Some value
        → LoggedRun start (log ++ access ∷ []) (task_at_next task)

  -- the task's run with this log made its end call, which leaves this
  pub record FinishesWithLog (task : PendingTask) (log : List Access) (after : TaskState) : Type 0 where
    pub before : TaskState
    pub run : LoggedRun (task_at_start image.version task.entry ctx.ts task.args []) log before
    pub ends : CoreAsks before End
    pub leaves : after ≡ task_at_next before

  -- the task's run with this log trapped so
  pub record TrapsWithLog (task : PendingTask) (log : List Access) (cause pc : ℕ) : Type 0 where
    pub before : TaskState
    pub run : LoggedRun (task_at_start image.version task.entry ctx.ts task.args []) log before
    pub traps : CoreAsks before (Trap cause)
    pub at : pc ≡ before.core.pc

-- where the log of a finished task replays on the serial memory, its turn is the serial machine's, with the log's
-- stores, its children and its output
abbrev pub LoggedRunIsTurn : Type 0
LoggedRunIsTurn =
    (image : ImageValue) (budget depth : ℕ) (s : SerialState) (task : PendingTask) (log : List Access)
    (after : TaskState)
    (next : HasTurn s.stack depth task)
    → FinishesWithLog image budget (length s.memory) (context_in_bag image.version next.bag next.outer task) task log
    after
    → Replays s.memory log
    → turn image budget s task.name ≡ Some (
      record {
        stack = stack_after next.bag next.outer task.name (s.count + 1) task.ts after.spawns after.sub;
        memory = after_accesses s.memory log;
        output = s.output ++ after.bytes;
        count = s.count + 1;
      },
      record { name = task.name; depth = next.bag.depth; ts = task.ts },
    )

-- where the log of a trapped task replays on the serial memory, the serial machine's turn of it traps there
abbrev pub LoggedTrapIsSerial : Type 0
LoggedTrapIsSerial =
    (image : ImageValue) (budget depth : ℕ) (s : SerialState) (task : PendingTask) (log : List Access) (cause pc : ℕ)
    (next : HasTurn s.stack depth task)
    → TrapsWithLog image budget (length s.memory) (context_in_bag image.version next.bag next.outer task) task log cause
    pc
    → Replays s.memory log
    → TrapsSo image budget s task.name cause pc
