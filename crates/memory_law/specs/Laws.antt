-- The laws of memory.
use Rattle.std.specs.Prelude.{◌≡◌, ◌≢◌, ◌↔◌, ℕ, ◌/◌, Bool, true, false, List, [], Option, Some, None}
use Rattle.undo_log.specs.declared.access.Access.{Access}
use Rattle.undo_log.specs.Number.{after_write, AreBytes, IsAccessible}
use Rattle.undo_log.specs.Undo.{undone}
use Rattle.memory_law.specs.Accesses.{after_accesses, Replays, Apart}
use Rattle.memory_law.specs.Tasks.{Logged, IsLineSize, IsByKey, undone_set}
use Rattle.memory_law.specs.Chain.{IsChained, IsReplay}
use Rattle.memory_law.specs.Events.{AccessesInLogs, NoLaterWrote, NoLaterTouched, HoldsLaterWriters, HoldsLaterTouchers}
use Rattle.memory_law.specs.Events.{HoldsLater, TakesBackInLogs, DispatchesInLogs, CommitsInLogs, KeepsDispatched}
use Rattle.memory_law.specs.Events.{IsLatestInLogs}
use Rattle.memory_law.specs.Events.{without_one}

-- the accesses chain in each byte exactly where the logs, replayed by rising key, make the memory
abbrev pub ChainIsReplay : Type 0
ChainIsReplay =
    (line : ℕ) (tasks : ℕ → Option Logged) (serial memory : List ℕ)
    → IsChained line tasks serial memory ↔ IsReplay line tasks serial memory

-- a load of a line that no later task wrote keeps the chain
abbrev pub LoadKeepsChain : Type 0
LoadKeepsChain =
    (line : ℕ) (old new : ℕ → Option Logged) (id : ℕ) (was now : Logged) (access : Access) (serial memory : List ℕ)
    → IsLineSize line → AccessesInLogs line memory old new id was now access → access.new ≡ None
    → NoLaterWrote old was (access.offset / line)
    → IsChained line old serial memory → IsChained line new serial memory

-- a store to a line that no later task touched keeps the chain, to the memory with its value written
abbrev pub StoreKeepsChain : Type 0
StoreKeepsChain =
    (line : ℕ) (old new : ℕ → Option Logged) (id : ℕ) (was now : Logged) (access : Access) (value : ℕ)
    (serial memory : List ℕ)
    → IsLineSize line → AccessesInLogs line memory old new id was now access → access.new ≡ Some value
    → NoLaterTouched old was (access.offset / line)
    → IsChained line old serial memory → IsChained line new serial (after_write memory access.offset access.width value)

-- an abort of a closed set of tasks, the latest first, leaves the chain of the others
abbrev pub AbortKeepsChain : Type 0
AbortKeepsChain =
    (line : ℕ) (set : ℕ → Bool) (old new : ℕ → Option Logged) (ids serial memory : List ℕ)
    → IsLineSize line → HoldsLater line set old → TakesBackInLogs set old new → IsByKey old ids
    → IsChained line old serial memory → IsChained line new serial (undone_set set old ids memory)

-- where the later tasks that conflict with an access are aborted, none is left that conflicts with it
abbrev pub NoConflictIsLeft : Type 0
NoConflictIsLeft =
    (set : ℕ → Bool) (old new : ℕ → Option Logged) (task : Logged) (at : ℕ)
    → TakesBackInLogs set old new
    → (HoldsLaterWriters set old task at → NoLaterWrote new task at)
    × (HoldsLaterTouchers set old task at → NoLaterTouched new task at)

-- a dispatch keeps the chain
abbrev pub DispatchKeepsChain : Type 0
DispatchKeepsChain =
    (line : ℕ) (old new : ℕ → Option Logged) (id : ℕ) (now : Logged) (serial memory : List ℕ)
    → DispatchesInLogs old new id now → IsChained line old serial memory → IsChained line new serial memory

-- at the commit of the least task its log replays on the serial memory, and the others chain from the memory that
-- it makes
abbrev pub CommitKeepsChain : Type 0
CommitKeepsChain =
    (line : ℕ) (old new : ℕ → Option Logged) (id : ℕ) (task : Logged) (serial memory : List ℕ)
    → CommitsInLogs old new id task → IsChained line old serial memory
    → Replays serial task.log × IsChained line new (after_accesses serial task.log) memory

-- a rollback of all tasks, the latest first, leaves the serial memory
abbrev pub AllLogsUndoneIsSerial : Type 0
AllLogsUndoneIsSerial =
    (line : ℕ) (tasks : ℕ → Option Logged) (ids serial memory : List ℕ)
    → IsByKey tasks ids → IsChained line tasks serial memory → undone_set (λ id. true) tasks ids memory ≡ serial

-- the dispatched tasks stand by rising key in one order alone
abbrev pub KeyOrderIsOne : Type 0
KeyOrderIsOne = (tasks : ℕ → Option Logged) (ids others : List ℕ) → IsByKey tasks ids → IsByKey tasks others
    → ids ≡ others

-- where no task is dispatched the serial memory chains to itself
abbrev pub UndispatchedIsChained : Type 0
UndispatchedIsChained =
    (line : ℕ) (tasks : ℕ → Option Logged) (serial : List ℕ)
    → AreBytes serial → ((id : ℕ) (task : Logged) → tasks id ≡ Some task → (task.dispatched ≡ false) × (task.log ≡ []))
    → IsChained line tasks serial serial

-- idle tasks that come, go or change keep the chain
abbrev pub IdleTasksKeepChain : Type 0
IdleTasksKeepChain =
    (line : ℕ) (old new : ℕ → Option Logged) (serial memory : List ℕ)
    → KeepsDispatched old new → IsChained line old serial memory → IsChained line new serial memory

-- a set is rolled back by rolling back its latest member, and then the others
abbrev pub LatestFirst : Type 0
LatestFirst =
    (set : ℕ → Bool) (tasks : ℕ → Option Logged) (id : ℕ) (task : Logged) (ids memory : List ℕ)
    → IsByKey tasks ids → IsLatestInLogs set tasks id task
    → undone_set set tasks ids memory ≡ undone_set (without_one id set) tasks ids (undone task.log memory)

-- aligned accesses to two lines share no byte
abbrev pub LinesShareNoByte : Type 0
LinesShareNoByte =
    (size line offset width other wide : ℕ)
    → IsLineSize line → IsAccessible size offset width → IsAccessible size other wide
    → offset / line ≢ other / line → Apart offset width other wide
