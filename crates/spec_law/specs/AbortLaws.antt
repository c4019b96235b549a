-- What an abort is to the laws of order, of tasks and of memory, and that it keeps a view sound.
use Rattle.std.specs.Prelude.{◌≡◌, ◌≢◌, ℕ, Bool, true, false, List, Option, Some}
use Rattle.guest_image.specs.ImageValue.{ImageValue}
use Rattle.memory_law.specs.Events as memory
use Rattle.order_law.specs.Events as order
use Rattle.spec_state.specs.serial_machine.State.{SerialState}
use Rattle.spec_state.specs.task_law.Moves as moves
use Rattle.spec_state.specs.declared.task.Task.{Task}
use Rattle.spec_state.specs.View.{View, task_at}
use Rattle.spec_state.specs.Groups.{keyed_tasks, logged_tasks, bag_tasks}
use Rattle.spec_state.specs.Least.{IsHeir}
use Rattle.spec_state.specs.Queries.{Conflicts, IsLater}
use Rattle.spec_state.specs.Aborts.{PullsInView, is_marked, Aborts, IsCascade, OnlyNode}
use Rattle.spec_state.specs.Room.{asker_of, IsVictim, IsTakenFor}
use Rattle.spec_law.specs.Sound.{Sound, SoundMemory, SoundOrder, SoundSizes, SoundTasks, StaysSound}

-- where an abort's cascades begin: with one task, or with all that conflict with an access
pub data Firsts : Type 0 where
  OneTask : (id : ℕ) → Firsts
  AllConflicts : (task : Task) (line : ℕ) (write : Bool) → Firsts

-- the cascades begin with the task of this id
abbrev pub IsFirst : View → Firsts → ℕ → Type 0
IsFirst view (OneTask id) = OnlyNode id
IsFirst view (AllConflicts task line write) = Conflicts view task line write

-- with each marked task all that is aborted with it is marked
abbrev pub HoldsPulled : View → List Bool → Type 0
HoldsPulled view marks = (a b : ℕ) → PullsInView view a b → is_marked marks a ≡ true → is_marked marks b ≡ true

-- a cascade contains, with each task, all that is aborted with it
abbrev pub CascadeHoldsPulled : Type 0
CascadeHoldsPulled =
    (view : View) (firsts : Firsts) (marks : List Bool) → IsCascade view (IsFirst view firsts) marks
    → HoldsPulled view marks

-- to the order of the queued tasks an abort is one of the tasks that it marks
abbrev pub MarkedAreAborted : Type 0
MarkedAreAborted =
    (firsts : Firsts) (old : View) (aborted : ℕ) (new : View) (abort : Aborts (IsFirst old firsts) old aborted new)
    → order.AbortsInKeys (is_marked abort.marks) (keyed_tasks old) (keyed_tasks new)

-- in the bags of pending tasks an abort returns the marked ones to their bags
abbrev pub MarkedAreIdle : Type 0
MarkedAreIdle =
    (firsts : Firsts) (old : View) (aborted : ℕ) (new : View) (abort : Aborts (IsFirst old firsts) old aborted new)
    → moves.TakesBackInBags (is_marked abort.marks) (bag_tasks old) (bag_tasks new)

-- for memory an abort rolls back a set of tasks that contains, with each member, the later tasks that may have read or
-- overwritten what it wrote
abbrev pub MarkedLeaveMemory : Type 0
MarkedLeaveMemory =
    (firsts : Firsts) (old : View) (aborted : ℕ) (new : View) (abort : Aborts (IsFirst old firsts) old aborted new)
    → memory.HoldsLater old.settings.line (is_marked abort.marks) (logged_tasks old)
    × memory.TakesBackInLogs (is_marked abort.marks) (logged_tasks old) (logged_tasks new)

-- the group of memory holds after an abort in a sound view, against the same state of the serial machine
abbrev pub AbortKeepsSoundMemory : Type 0
AbortKeepsSoundMemory =
    (image : ImageValue) (firsts : Firsts) (old : View) (aborted : ℕ) (new : View) (sound : Sound image old)
    → Aborts (IsFirst old firsts) old aborted new → SoundMemory new sound.serial

-- the dispatched least task, where there is one, is unmarked
abbrev pub SparesHeir : List Bool → Option ℕ → Type 0
SparesHeir marks heir = (id : ℕ) → heir ≡ Some id → is_marked marks id ≡ false

-- an abort of another task spares the dispatched least task
abbrev pub CascadeSparesHeir : Type 0
CascadeSparesHeir =
    (image : ImageValue) (view : View) (first : ℕ) (task : Task) (marks : List Bool) (sound : Sound image view)
    → task_at view first ≡ Some task → sound.heir ≢ Some first → IsCascade view (OnlyNode first) marks
    → SparesHeir marks sound.heir

-- an abort of all tasks that conflict with an access spares the dispatched least task
abbrev pub ConflictsSpareHeir : Type 0
ConflictsSpareHeir =
    (image : ImageValue) (view : View) (id line : ℕ) (task : Task) (write : Bool) (marks : List Bool)
    (sound : Sound image view)
    → task_at view id ≡ Some task → IsCascade view (Conflicts view task line write) marks → SparesHeir marks sound.heir

-- an abort that spares the dispatched least task keeps the order of all uncommitted tasks
abbrev pub AbortKeepsSoundOrder : Type 0
AbortKeepsSoundOrder =
    (firsts : Firsts) (old : View) (aborted : ℕ) (new : View) (heir : Option ℕ)
    (abort : Aborts (IsFirst old firsts) old aborted new)
    → SparesHeir abort.marks heir → SoundOrder old heir → SoundOrder new heir

-- an abort that spares the dispatched least task keeps the group of tasks, against the same state of the serial machine
abbrev pub AbortKeepsSoundTasks : Type 0
AbortKeepsSoundTasks =
    (image : ImageValue) (firsts : Firsts) (old : View) (aborted : ℕ) (new : View) (heir : Option ℕ)
    (serial : SerialState) (abort : Aborts (IsFirst old firsts) old aborted new)
    → SparesHeir abort.marks heir → SoundTasks image old heir serial → SoundTasks image new heir serial

-- an abort keeps the group of sizes
abbrev pub AbortKeepsSoundSizes : Type 0
AbortKeepsSoundSizes =
    (firsts : Firsts) (old : View) (aborted : ℕ) (new : View) → Aborts (IsFirst old firsts) old aborted new
    → SoundSizes old → SoundSizes new

-- an abort that spares the dispatched least task keeps it so, and where no least task is dispatched, none is afterwards
abbrev pub AbortKeepsHeirOfView : Type 0
AbortKeepsHeirOfView =
    (firsts : Firsts) (old : View) (aborted : ℕ) (new : View) (heir : Option ℕ)
    (abort : Aborts (IsFirst old firsts) old aborted new)
    → SparesHeir abort.marks heir → SoundOrder old heir → SoundSizes old → IsHeir old heir → IsHeir new heir

-- an abort that spares the dispatched least task keeps a view sound, against the same state of the serial machine
abbrev pub AbortKeepsSound : Type 0
AbortKeepsSound =
    (image : ImageValue) (firsts : Firsts) (old : View) (aborted : ℕ) (new : View) (sound : Sound image old)
    (abort : Aborts (IsFirst old firsts) old aborted new)
    → SparesHeir abort.marks sound.heir → StaysSound image old sound new

-- an abort of a task other than the dispatched least one keeps a view sound
abbrev pub AbortOfOneIsSound : Type 0
AbortOfOneIsSound =
    (image : ImageValue) (first : ℕ) (task : Task) (old : View) (aborted : ℕ) (new : View) (sound : Sound image old)
    → task_at old first ≡ Some task → sound.heir ≢ Some first → Aborts (OnlyNode first) old aborted new
    → StaysSound image old sound new

-- an abort of all tasks that conflict with an access keeps a view sound
abbrev pub AbortOfConflictsIsSound : Type 0
AbortOfConflictsIsSound =
    (image : ImageValue) (id line : ℕ) (task : Task) (write : Bool) (old : View) (aborted : ℕ) (new : View)
    (sound : Sound image old)
    → task_at old id ≡ Some task → Aborts (Conflicts old task line write) old aborted new
    → StaysSound image old sound new

-- an abort of a dispatched task that is later than a queued one keeps a view sound
abbrev pub AbortOfLaterIsSound : Type 0
AbortOfLaterIsSound =
    (image : ImageValue) (id v : ℕ) (task x : Task) (old : View) (aborted : ℕ) (new : View) (sound : Sound image old)
    → task_at old id ≡ Some task → IsLater old task v x → Aborts (OnlyNode v) old aborted new
    → StaysSound image old sound new

-- an abort that makes room for a least task, which is dispatched or spilled, keeps a view sound
abbrev pub AbortForRoomIsSound : Type 0
AbortForRoomIsSound =
    (image : ImageValue) (tile v first : ℕ) (task : Task) (old : View) (aborted : ℕ) (new : View)
    (sound : Sound image old)
    → IsVictim old tile (asker_of sound.heir) v task → IsTakenFor old v task first
    → Aborts (OnlyNode first) old aborted new
    → StaysSound image old sound new
