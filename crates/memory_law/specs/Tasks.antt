-- What memory reads of the uncommitted tasks, which are given by their ids.
use Rattle.std.specs.Prelude.{◌≡◌, ◌⊎◌, ℕ, ◌/◌, ◌%◌, ◌<◌, Bool, true, List, [], ◌∷◌, ◌++◌, Option, Some, None}
use Rattle.std.specs.Prelude.{if◌then◌else◌}
use Rattle.std.specs.declared.cmp.Ordering.TheVariants.{Less}
use Rattle.fractal_vt.specs.Levels.{Open, levels_cmp}
use Rattle.undo_log.specs.declared.access.Access.{Access}
use Rattle.undo_log.specs.Number.{IsAccessible}
use Rattle.undo_log.specs.Undo.{undone}

-- a task's key as its levels, whether it is dispatched, its log, and which lines its filter says it touched and wrote
pub record Logged : Type 0 where
  pub levels : List Open
  pub dispatched : Bool
  pub log : List Access
  pub touched : ℕ → Bool
  pub wrote : ℕ → Bool

-- a number of bytes that a line may have: each multiple of 4 above 0, so that an access lies in one line
pub record IsLineSize (line : ℕ) : Type 0 where
  pub some : 0 < line
  pub fours : line % 4 ≡ 0

-- the line of a store is one that the filter says was written
abbrev pub IsWroteIfStore : (ℕ → Bool) → ℕ → Option ℕ → Type 0
IsWroteIfStore wrote at None = Unit {0}
IsWroteIfStore wrote at (Some value) = wrote at ≡ true

-- each access lies aligned within so many bytes, its line is touched, and the line of a store is wrote
abbrev pub AreNotedInFilter : ℕ → ℕ → (ℕ → Bool) → (ℕ → Bool) → List Access → Type 0
AreNotedInFilter size line touched wrote [] = Unit {0}
AreNotedInFilter size line touched wrote (access ∷ log) =
    IsAccessible size access.offset access.width
    × (touched (access.offset / line) ≡ true)
    × IsWroteIfStore wrote (access.offset / line) access.new
    × AreNotedInFilter size line touched wrote log

-- the task's filter leaves out no access of its log
abbrev pub IsNoted : ℕ → ℕ → Logged → Type 0
IsNoted size line task = AreNotedInFilter size line task.touched task.wrote task.log

-- the log of the task, if there is one
abbrev pub log_of : Option Logged → List Access
log_of None = []
log_of (Some task) = task.log

-- the logs of these tasks, one after another
abbrev pub logs : (ℕ → Option Logged) → List ℕ → List Access
logs tasks [] = []
logs tasks (id ∷ ids) = log_of (tasks id) ++ logs tasks ids

-- the list contains the element
abbrev pub In : {X : Type 0} → X → List X → Type 0
In x [] = ⊥
In x (y ∷ ys) = (x ≡ y) ⊎ In x ys

-- the first task's key is less than the second's
abbrev pub Earlier : Logged → Logged → Type 0
Earlier x y = levels_cmp x.levels y.levels ≡ Less

-- these are dispatched tasks, by rising key
abbrev pub Ascends : (ℕ → Option Logged) → List ℕ → Type 0
Ascends tasks [] = Unit {0}
Ascends tasks (id ∷ ids) =
    (task : Logged)
    × (tasks id ≡ Some task)
    × (task.dispatched ≡ true)
    × ((k : ℕ) (other : Logged) → In k ids → tasks k ≡ Some other → Earlier task other)
    × Ascends tasks ids

-- these are all dispatched tasks, by rising key
pub record IsByKey (tasks : ℕ → Option Logged) (ids : List ℕ) : Type 0 where
  pub ascends : Ascends tasks ids
  pub complete : (id : ℕ) (task : Logged) → tasks id ≡ Some task → task.dispatched ≡ true → In id ids

-- the memory after a rollback of the logs of the set's members among these, the last one first, each from its last
-- access on
abbrev pub undone_set : (ℕ → Bool) → (ℕ → Option Logged) → List ℕ → List ℕ → List ℕ
undone_set set tasks [] memory = memory
undone_set set tasks (id ∷ ids) memory =
    if set id then undone (log_of (tasks id)) (undone_set set tasks ids memory) else undone_set set tasks ids memory
