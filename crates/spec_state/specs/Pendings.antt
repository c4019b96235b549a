-- The tasks that pend: the uncommitted ones that the image or a committed task made.
use Rattle.std.specs.Prelude.{◌≡◌, ℕ, ◌+◌, nat_le, Bool, true, List, [], ◌∷◌, ◌++◌, length, map, AllPairs, Option, Some}
use Rattle.std.specs.Prelude.{None, if◌then◌else◌, IsPermutation}
use Rattle.std.specs.List.{filter_map}
use Rattle.guest_image.specs.ImageValue.{ImageValue}
use Rattle.pending_list.specs.Pending as names
use Rattle.pending_list.specs.declared.task.PendingTask.{PendingTask}
use Rattle.run_journal.specs.declared.journal.Entry.{Entry}
use Rattle.task_law.specs.serial_machine.BagValue.{BagValue}
use Rattle.task_law.specs.serial_machine.Run.{IsRun}
use Rattle.task_law.specs.serial_machine.State.{SerialState}
use Rattle.task_desc.specs.declared.desc.Desc.{Desc}
use Rattle.spill_store.specs.SpilledTasks.{Spilled}
use Rattle.spec_state.specs.declared.pending.Pending.{Pending}
use Rattle.spec_state.specs.declared.task.Creator.{Creator}
use Rattle.spec_state.specs.declared.task.Creator.TheVariants.{Committed, Live}
use Rattle.spec_state.specs.declared.task.Task.{Task}
use Rattle.spec_state.specs.View.{View}
use Rattle.spec_state.specs.Tasks.{depth_of}
use Rattle.spec_state.specs.Groups.{all_spilled}

-- ---- of the serial machine

-- a task of a bag of this depth
abbrev pub pending_at : ℕ → PendingTask → Pending
pending_at depth t = record { name = t.name; depth = depth; entry = t.entry; ts = t.ts; args = t.args }

-- the tasks of all bags, the innermost bag first
abbrev pub all_pending : List BagValue → List Pending
all_pending [] = []
all_pending (bag ∷ outer) = map (pending_at bag.depth) bag.tasks ++ all_pending outer

-- whether the first task's name is before the second's: by creators, then by places among a creator's children
abbrev pub pending_before : Pending → Pending → Bool
pending_before a b = names.name_before a.name b.name

abbrev pub IsBefore : Pending → Pending → Type 0
IsBefore a b = pending_before a b ≡ true

-- the list holds the tasks of all bags, sorted by their names
pub record ArePendings (stack : List BagValue) (pendings : List Pending) : Type 0 where
  pub sorted : AllPairs IsBefore pendings
  pub held : IsPermutation pendings (all_pending stack)

-- a run of the image leaves this memory, this output and these pending tasks
pub record RunLeaves (image : ImageValue) (budget : ℕ) (journal : List Entry) (memory output : List ℕ)
    (pendings : List Pending) : Type 0 where
  pub state : SerialState
  pub run : IsRun image budget journal state
  pub memory_is : memory ≡ state.memory
  pub output_is : output ≡ state.output
  pub pending : ArePendings state.stack pendings

-- ---- of a view

-- a queued task of this creator, which pends where that has committed
abbrev pub pending_by : Creator → Task → Option Pending
pending_by (Committed turn index) task = Some (record {
  name = record { creator = turn; index = index };
  depth = depth_of task;
  entry = task.entry;
  ts = task.key.ts;
  args = task.args;
})
pending_by (Live creator index) task = None

-- a queued task, if there is one, which pends where its creator has committed
abbrev pub pending_queued : Option Task → Option Pending
pending_queued None = None
pending_queued (Some task) = pending_by task.creator task

-- a spilled task, which pends where the image or one of so many that have committed made it: so a spilled child of the
-- least task is left out, as its queued brothers are
abbrev pub pending_spilled : ℕ → Desc → Option Pending
pending_spilled count d =
    if nat_le d.name.creator count
    then Some (record { name = d.name; depth = d.depth; entry = d.entry; ts = d.ts; args = d.args })
    else None

-- the spilled tasks of a list that pend
abbrev pub spilled_pending : ℕ → List Spilled → List Pending
spilled_pending count spilled = filter_map (λ s. pending_spilled count s.desc) spilled

-- the pending tasks: the queued ones by id, then the spilled ones by tile
abbrev pub pendings_in : View → List Pending
pendings_in view = filter_map pending_queued view.tasks ++ spilled_pending (length view.history) (all_spilled view)
