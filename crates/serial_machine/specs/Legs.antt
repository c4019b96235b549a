-- Words for the code that runs a task leg by leg.
use Rattle.std.specs.Prelude.{◌≡◌, ◌≤◌, ◌<◌, ◌≢◌, ℕ, ◌-◌, ◌^◌, List, length, Option, Some, None}
use Rattle.guest_image.specs.declared.image.Kind.{Kind}
use Rattle.guest_image.specs.ImageValue.{ImageValue}
use Rattle.rv_core.specs.declared.state.Stop.{Stop}
use Rattle.rv_core.specs.declared.state.Stop.TheVariants as stop
use Rattle.rv_core.specs.Memory.{load_width}
use Rattle.task_desc.specs.declared.calls.TheConstants.{MAX_BYTES, MAX_CHILDREN, MAX_DEPTH}
use Rattle.task_desc.specs.declared.desc.Ctx.{Ctx}
use Rattle.task_request.specs.declared.request.Request.{Request}
use Rattle.task_request.specs.declared.request.Request.TheVariants as request
use Rattle.task_request.specs.Effects.{Continuation, Continues, Ends, Traps}
use Rattle.task_request.specs.TaskState.{TaskState}
use Rattle.undo_log.specs.Number.{IsAccessible}
use Rattle.serial_machine.specs.declared.progress.Flow.{Flow}
use Rattle.serial_machine.specs.declared.progress.Flow.TheVariants as flow
use Rattle.serial_machine.specs.declared.running.RunEnd.{RunEnd}
use Rattle.serial_machine.specs.declared.running.RunEnd.TheVariants as ends
use Rattle.serial_machine.specs.declared.fault.TurnFault.{TurnFault}
use Rattle.serial_machine.specs.declared.fault.TurnFault.TheVariants as faults
use Rattle.serial_machine.specs.TaskRun.{after_instructions, TaskEnd, Done, Trapped}

-- a task in progress, and the memory that it began with
pub record Tracked : Type 0 where
  pub task : TaskState
  pub first : List ℕ

-- the code went on as an instruction says, to this task
abbrev pub Leads : Continuation → Flow → TaskState → Type 0
Leads (Continues task) flow.Continues new = new ≡ task
Leads (Ends task) flow.Ended new = new ≡ task
Leads (Traps cause pc) (flow.Trapped found at) new = (found ≡ cause) × (at ≡ pc)
Leads (Continues task) flow.Ended new = ⊥
Leads (Continues task) (flow.Trapped found at) new = ⊥
Leads (Ends task) flow.Continues new = ⊥
Leads (Ends task) (flow.Trapped found at) new = ⊥
Leads (Traps cause pc) flow.Continues new = ⊥
Leads (Traps cause pc) flow.Ended new = ⊥

-- a task at the greatest depth makes no subdomain
abbrev pub SubFits : ℕ → Option Kind → Type 0
SubFits depth None = Unit {0}
SubFits depth (Some kind) = depth ≢ MAX_DEPTH

-- one more instruction can be counted
abbrev pub CanCount : ℕ → Type 0
CanCount used = used < 2 ^ 32 - 1

-- what ends a leg can be counted, if it is executed
abbrev pub StopCanCount : ℕ → Stop → Type 0
StopCanCount used (stop.Load width rd addr) = CanCount used
StopCanCount used (stop.Store width addr value) = CanCount used
StopCanCount used stop.Call = CanCount used
StopCanCount used (stop.Trap cause pc) = Unit {0}
StopCanCount used stop.Quantum = Unit {0}

-- the code can do what a task asks for: an instruction can be counted, an access lies in the memory, and one child or
-- byte more is within the limits
abbrev pub CanPerform : TaskState → Request → Type 0
CanPerform task request.Continue = Unit {0}
CanPerform task (request.Load width rd offset) =
    CanCount task.core.used × IsAccessible (length task.memory) offset (load_width width)
CanPerform task (request.Store offset width value) =
    CanCount task.core.used × IsAccessible (length task.memory) offset width
CanPerform task (request.Enqueue child) = CanCount task.core.used × (length task.spawns < MAX_CHILDREN)
CanPerform task (request.MakeSub kind) = CanCount task.core.used
CanPerform task (request.Emit byte) = CanCount task.core.used × (length task.bytes < MAX_BYTES)
CanPerform task request.End = CanCount task.core.used
CanPerform task (request.Trap cause) = Unit {0}

-- the run is over so, and where it is done it left this task
abbrev pub FinishesRun : TaskEnd → RunEnd → TaskState → Type 0
FinishesRun (Done task) ends.Done new = new ≡ task
FinishesRun (Trapped cause pc) (ends.Trapped found at) new = (found ≡ cause) × (at ≡ pc)
FinishesRun (Done task) (ends.Trapped found at) new = ⊥
FinishesRun (Trapped cause pc) ends.Done new = ⊥

-- how the run of a task in progress ends
abbrev pub end_of_task : ImageValue → ℕ → Ctx → TaskState → TaskEnd
end_of_task image budget ctx task = after_instructions image budget ctx (budget - task.core.used) task

-- the leg went on: the task's run ends as it would have from before it, more instructions are counted, within the
-- budget, and the memory has the same size
pub record LegAdvances (image : ImageValue) (budget : ℕ) (ctx : Ctx) (old new : TaskState) : Type 0 where
  pub same : end_of_task image budget ctx new ≡ end_of_task image budget ctx old
  pub used : old.core.used < new.core.used
  pub within : new.core.used ≤ budget
  pub memory : length new.memory ≡ length old.memory

-- where a leg, and what ends it, lead
abbrev pub LegLeads : ImageValue → ℕ → Ctx → TaskState → Flow → TaskState → Type 0
LegLeads image budget ctx old flow.Continues new = LegAdvances image budget ctx old new
LegLeads image budget ctx old flow.Ended new = FinishesRun (end_of_task image budget ctx old) ends.Done new
LegLeads image budget ctx old (flow.Trapped cause pc) new =
    FinishesRun (end_of_task image budget ctx old) (ends.Trapped cause pc) new

-- why a task's run is not done
abbrev pub RunFails : TaskEnd → TurnFault → Type 0
RunFails end (faults.Trap cause pc) = end ≡ Trapped cause pc
RunFails end faults.Memory = Unit {0}
RunFails end faults.NotPending = ⊥
RunFails end (faults.NotTop depth) = ⊥
RunFails end (faults.NotLeast ts) = ⊥
