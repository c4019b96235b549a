-- Laws of sound views.
use Rattle.std.specs.Prelude.{◌≡◌, ◌≢◌, ℕ, ◌≤◌, Bool, true, List, length, Contains, Some, slice_get}
use Rattle.std.specs.declared.cmp.Ordering.TheVariants.{Less}
use Rattle.abort_cascade.specs.Cascade.{Marked}
use Rattle.fractal_vt.specs.Keys.{key_cmp}
use Rattle.guest_image.specs.ImageValue.{ImageValue}
use Rattle.spec_state.specs.serial_machine.BagValue.{BagValue}
use Rattle.spill_store.specs.SpilledTasks.{Spilled}
use Rattle.spec_state.specs.task_law.Commit.{HasTurn}
use Rattle.spec_state.specs.declared.task.Creator.{Creator}
use Rattle.spec_state.specs.declared.task.Creator.TheVariants.{Committed}
use Rattle.spec_state.specs.declared.task.Task.{Task}
use Rattle.spec_state.specs.View.{View, task_at, block_at}
use Rattle.spec_state.specs.Tasks.{depth_of}
use Rattle.spec_state.specs.Groups.{all_spilled, bag_task, bag_spilled}
use Rattle.spec_state.specs.Least.{Spot, Spilled_at, IsLeastSpot, IsLeastTask, HasName}
use Rattle.spec_state.specs.Queries.{Conflicts}
use Rattle.spec_state.specs.Aborts.{IsCascade, IsUndone, OnlyNode, UndoesAll}
use Rattle.spec_law.specs.Sound.{Sound}
use Rattle.spec_state.specs.task_law.Tasks.{pending}

-- there is one least task at most: two spots of least tasks are one
abbrev pub LeastIsOne : Type 0
LeastIsOne = (view : View) (a b : Spot) → IsLeastSpot view a → IsLeastSpot view b → a ≡ b

-- a task of a committed creator that may take the serial machine's next turn: it is in the innermost bag that contains
-- a task, with a least timestamp there
pub record MayTakeTurn (stack : List BagValue) (task : Task) : Type 0 where
  pub turn : ℕ
  pub index : ℕ
  pub creator : task.creator ≡ Committed turn index
  pub next : HasTurn stack (depth_of task) (pending turn index (bag_task task).body task.key.ts)

-- the least task, where it is queued, is firm and may take the serial machine's next turn
abbrev pub LeastIsNext : Type 0
LeastIsNext =
    (image : ImageValue) (view : View) (sound : Sound image view) (id : ℕ) (task : Task) → IsLeastTask view id task
    → MayTakeTurn sound.serial.stack task

-- the same holds where it is spilled
abbrev pub LeastSpilledIsNext : Type 0
LeastSpilledIsNext =
    (image : ImageValue) (view : View) (sound : Sound image view) (tile place : ℕ) (s : Spilled)
    → IsLeastSpot view (Spilled_at tile place)
    → slice_get (block_at view tile) place ≡ Some s
    → (s.desc.name.creator ≤ length view.history) × HasTurn sound.serial.stack s.desc.depth (bag_spilled s).task

-- each spilled task is firm: its name is that of a task of the image, or of a child of a committed task or of the
-- least one, which is dispatched
abbrev pub SpilledAreFirm : Type 0
SpilledAreFirm =
    (image : ImageValue) (view : View) → Sound image view → (s : Spilled) → Contains (all_spilled view) s
    → (creator : Creator) × HasName view creator s.desc.name

-- the cascade of a task holds, beside it, later tasks alone
abbrev pub CascadeIsLater : Type 0
CascadeIsLater =
    (image : ImageValue) (view : View) (first : ℕ) (task : Task) (marks : List Bool)
    → Sound image view → task_at view first ≡ Some task → IsCascade view (OnlyNode first) marks
    → (id : ℕ) → Marked marks id → id ≢ first
    → (x : Task) × (task_at view id ≡ Some x) × (key_cmp task.key x.key ≡ Less)

-- the cascades of all tasks that conflict with an access never contain the task that makes the access
abbrev pub ConflictsSpareAsker : Type 0
ConflictsSpareAsker =
    (image : ImageValue) (view : View) (id line : ℕ) (task : Task) (write : Bool) (marks : List Bool)
    → Sound image view → task_at view id ≡ Some task → IsCascade view (Conflicts view task line write) marks
    → Marked marks id → ⊥

-- memory with the stores of all uncommitted tasks rolled back is that of the serial machine after the journal
abbrev pub AllUndoneIsSerial : Type 0
AllUndoneIsSerial =
    (image : ImageValue) (view : View) (sound : Sound image view) (memory : List ℕ)
    → IsUndone view (λ id. true) memory → memory ≡ sound.serial.memory

-- an abort of all uncommitted tasks leaves the serial machine's memory and output after the journal
abbrev pub UndoAllIsSerial : Type 0
UndoAllIsSerial =
    (image : ImageValue) (old new : View) (sound : Sound image old) → UndoesAll old new
    → (new.memory ≡ sound.serial.memory) × (new.output ≡ sound.serial.output)
