-- The laws of a run: what holds of the journal of every run of an image, and of the state that the run led to.
use Rattle.std.specs.Prelude.{ℕ, ◌≡◌, ◌≤◌, ◌<◌, ◌+◌, ◌==◌, ◌&&◌, ◌⊎◌, Bool, List, [], ◌∷◌, ◌++◌, length, filter}
use Rattle.std.specs.List.{AllByRecursion}
use Rattle.guest_image.specs.ImageValue.{ImageValue}
use Rattle.task_desc.specs.declared.desc.Name.{Name}
use Rattle.run_journal.specs.declared.journal.Entry.{Entry}
use Rattle.serial_machine.specs.BagValue.{BagValue}
use Rattle.pending_list.specs.declared.task.PendingTask.{PendingTask}
use Rattle.serial_machine.specs.State.{SerialState}
use Rattle.serial_machine.specs.TaskState.{TaskState}
use Rattle.serial_machine.specs.TaskRun.{Done}
use Rattle.serial_machine.specs.Names.{one}
use Rattle.serial_machine.specs.Turn.{inner, is_least, run_in_bag, MayTurn}
use Rattle.serial_machine.specs.Run.{IsRun}

-- whether two names are one
abbrev pub is_same : Name → Name → Bool
is_same a b = (a.creator == b.creator) && (a.index == b.index)

-- how many turns a name took
abbrev pub turns_of : Name → List Entry → ℕ
turns_of name [] = 0
turns_of name (e ∷ es) = one (is_same e.name name) + turns_of name es

-- no name takes two turns of the journal
abbrev pub TurnsAreDistinct : List Entry → Type 0
TurnsAreDistinct journal = (name : Name) → turns_of name journal ≤ 1

-- the journal has the entry right after these entries, whose run led to this state
pub record IsTurnOf (image : ImageValue) (budget : ℕ) (journal before : List Entry) (state : SerialState)
    (entry : Entry) : Type 0 where
  pub entries_behind : List Entry
  pub stands : journal ≡ before ++ entry ∷ entries_behind
  pub run : IsRun image budget before state

-- a task of the image has the creator 0 and its place among the image's tasks
abbrev pub NameIsOfImage : ImageValue → Name → Type 0
NameIsOfImage image name = (name.creator ≡ 0) × (name.index < length image.tasks)

-- a child has the number of the turn that made it, counted from 1, and its place among the children of that turn
pub record NameIsOfChild (image : ImageValue) (budget : ℕ) (journal : List Entry) (name : Name) : Type 0 where
  pub before : List Entry
  pub state : SerialState
  pub entry : Entry
  pub stands : IsTurnOf image budget journal before state entry
  pub bag : BagValue
  pub outer : List BagValue
  pub task : PendingTask
  pub done : TaskState
  pub may : MayTurn state.stack entry.name bag outer task
  pub ran : run_in_bag image budget state bag outer task ≡ Done done
  pub creator : name.creator ≡ length before + 1
  pub index : name.index < length done.spawns

-- the image or a turn of the journal made a task of this name
abbrev pub NameIsMade : ImageValue → ℕ → List Entry → Name → Type 0
NameIsMade image budget journal name = NameIsOfImage image name ⊎ NameIsOfChild image budget journal name

-- only tasks that were made take a turn, and where no task is pending each of them took one
pub record IsCompleteRun (image : ImageValue) (budget : ℕ) (journal : List Entry) (state : SerialState) : Type 0 where
  pub only : (name : Name) → 1 ≤ turns_of name journal → NameIsMade image budget journal name
  pub each : inner state.stack ≡ [] → (name : Name) → NameIsMade image budget journal name → turns_of name journal ≡ 1

-- the owner's entry, counted from 1, stands before this entry, and all entries behind the owner's up to and with
-- this one are deeper than it
pub record IsInsideTurns (owner : ℕ) (before : List Entry) (entry : Entry) : Type 0 where
  pub earlier : List Entry
  pub owner_entry : Entry
  pub between : List Entry
  pub stands : before ≡ earlier ++ owner_entry ∷ between
  pub number : owner ≡ length earlier + 1
  pub deeper : AllByRecursion (λ e. owner_entry.depth < e.depth) (between ++ entry ∷ [])

-- where a task takes its turn from a domain that another task made, all turns after that other task's, up to and
-- with this one, are deeper (Subramanian et al. 2017, section 3: a task and its subdomain run as one unit)
abbrev pub AreDeeper : ImageValue → ℕ → List Entry → Type 0
AreDeeper image budget journal =
    (before : List Entry) → (state : SerialState) → (entry : Entry) → IsTurnOf image budget journal before state entry
    → (bag : BagValue) → (outer : List BagValue) → inner state.stack ≡ bag ∷ outer → 1 ≤ bag.owner
    → IsInsideTurns bag.owner before entry

-- at most one task of the innermost bag that isn't empty has the least timestamp there (of a stack from `inner`)
abbrev pub IsUntied : List BagValue → Type 0
IsUntied [] = Unit {0}
IsUntied (bag ∷ outer) = length (filter (λ t. is_least t.ts bag.tasks) bag.tasks) ≤ 1

-- at no turn of the journal two tasks share the least timestamp of that bag
abbrev pub AreUntied : ImageValue → ℕ → List Entry → Type 0
AreUntied image budget journal =
    (before : List Entry) → (state : SerialState) → (entry : Entry) → IsTurnOf image budget journal before state entry
    → IsUntied (inner state.stack)

-- where no such tie exists, every run of the same length has this journal and leads to this state
abbrev pub IsForced : ImageValue → ℕ → List Entry → SerialState → Type 0
IsForced image budget journal state = AreUntied image budget journal
    → (other : List Entry) → (after : SerialState) → IsRun image budget other after → length other ≡ length journal
    → (other ≡ journal) × (after ≡ state)

-- all laws of a run
pub record AreLawful (image : ImageValue) (budget : ℕ) (journal : List Entry) (state : SerialState) : Type 0 where
  pub distinct : TurnsAreDistinct journal
  pub complete : IsCompleteRun image budget journal state
  pub deeper : AreDeeper image budget journal
  pub forced : IsForced image budget journal state
