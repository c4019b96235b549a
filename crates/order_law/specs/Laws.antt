-- The laws: what keeps the order of the tasks, the least task and the dispatched least task, and what a cascade lies
-- above.
use Rattle.std.specs.Prelude.{◌≡◌, ◌≢◌, ◌⊎◌, ◌<◌, ℕ, ◌+◌, Bool, false, List, [], length, map, Option, Some}
use Rattle.std.specs.declared.cmp.Ordering.TheVariants.{Less}
use Rattle.fractal_vt.specs.Levels.{Open, levels_cmp}
use Rattle.order_law.specs.Tasks.{Keyed, levels_of, HasNumber}
use Rattle.order_law.specs.Ordered.{IsNumberOf, IsOrdered}
use Rattle.order_law.specs.Events.{with_dispatch_number, DispatchesInKeys, AbortsInKeys, EnqueuesInKeys, IsLeastInKeys}
use Rattle.order_law.specs.Events.{CommitsInKeys, beside, MovesInKeys}
use Rattle.abort_cascade.specs.Cascade.{Marked, IsLeastClosed}
use Rattle.order_law.specs.Heir.{IsHeirInKeys, IsAbove, PullsLater}
use Rattle.order_law.specs.Opening.{IsRoot}
use Rattle.fractal_vt.specs.Renumbered.{place_in, with_number}
use Rattle.order_law.specs.Renumber.{renumbered_keyed_tasks, IsTableOf}
use Rattle.order_law.specs.Innermost.{IsInnermost}

-- before the first event, with idle tasks of the root domain alone, the order holds
abbrev pub OpeningIsOrdered : Type 0
OpeningIsOrdered =
    (tasks : ℕ → Option Keyed) → ((id : ℕ) (task : Keyed) → tasks id ≡ Some task → IsRoot task) → IsOrdered tasks [] 0

-- a dispatch keeps the order, and the next number is one higher
abbrev pub DispatchKeepsOrder : Type 0
DispatchKeepsOrder =
    (old new : ℕ → Option Keyed) (path : List Open) (next : ℕ) → DispatchesInKeys old new next → IsOrdered old path next
    → IsOrdered new path (next + 1)

-- a new child, in any of the three domains (`Place`), keeps the order
abbrev pub EnqueueKeepsOrder : Type 0
EnqueueKeepsOrder =
    (old new : ℕ → Option Keyed) (path : List Open) (next : ℕ) → EnqueuesInKeys old new → IsOrdered old path next
    → IsOrdered new path next

-- an abort keeps the order
abbrev pub AbortKeepsOrder : Type 0
AbortKeepsOrder =
    (set : ℕ → Bool) (old new : ℕ → Option Keyed) (path : List Open) (next : ℕ) → AbortsInKeys set old new
    → IsOrdered old path next → IsOrdered new path next

-- a commit of a dispatched least task keeps the order, and the levels of its key are the new path
abbrev pub CommitKeepsOrder : Type 0
CommitKeepsOrder =
    (old new : ℕ → Option Keyed) (path : List Open) (next id number : ℕ) (task : Keyed)
    → IsLeastInKeys old id task → HasNumber task number → CommitsInKeys old new id → IsOrdered old path next
    → IsOrdered new (levels_of task) next

-- a coalescing and a split keep the order
abbrev pub SpillKeepsOrder : Type 0
SpillKeepsOrder =
    (bound : ℕ) (old new : ℕ → Option Keyed) (before after : List Keyed) (path : List Open) (next : ℕ)
    → MovesInKeys bound old new before after → IsOrdered (beside bound old before) path next
    → IsOrdered (beside bound new after) path next

-- each number replaced by its place in a rising table of those in use keeps the order, and the table's length is
-- the next number
abbrev pub RenumberingKeepsOrder : Type 0
RenumberingKeepsOrder =
    (table : List ℕ) (tasks : ℕ → Option Keyed) (path : List Open) (next : ℕ)
    → IsTableOf table tasks path → IsOrdered tasks path next
    → IsOrdered (renumbered_keyed_tasks (place_in table) tasks) (map (with_number (place_in table)) path) (length table)

-- each number of a domain is one of the path or that of a dispatched task
abbrev pub DomainNumbersAreHeld : Type 0
DomainNumbersAreHeld =
    (bound : ℕ) (tasks : ℕ → Option Keyed) (path : List Open) (next : ℕ)
    → ((k : ℕ) (x : Keyed) → tasks k ≡ Some x → k < bound) → IsOrdered tasks path next
    → (id : ℕ) (task : Keyed) (number : ℕ) → tasks id ≡ Some task → IsNumberOf number task.domain
    → IsNumberOf number path ⊎ ((k : ℕ) × (x : Keyed) × (tasks k ≡ Some x) × HasNumber x number)

-- the least task has a committed creator, the greatest depth among those tasks, and the least timestamp of its depth
abbrev pub LeastIsInnermost : Type 0
LeastIsInnermost =
    (tasks : ℕ → Option Keyed) (path : List Open) (next id : ℕ) (task : Keyed) → IsOrdered tasks path next
    → IsLeastInKeys tasks id task → IsInnermost tasks task

-- each dispatched task but the least is above it, ties or not
abbrev pub DispatchedAreAboveLeast : Type 0
DispatchedAreAboveLeast =
    (tasks : ℕ → Option Keyed) (path : List Open) (next id k number : ℕ) (task x : Keyed)
    → IsOrdered tasks path next → IsLeastInKeys tasks id task → k ≢ id → tasks k ≡ Some x → HasNumber x number
    → levels_cmp (levels_of task) (levels_of x) ≡ Less

-- a least task that has been dispatched is below all others
abbrev pub LeastIsHeir : Type 0
LeastIsHeir =
    (tasks : ℕ → Option Keyed) (path : List Open) (next id number : ℕ) (task : Keyed)
    → IsOrdered tasks path next → IsLeastInKeys tasks id task → HasNumber task number → IsHeirInKeys tasks id task

-- a least task is below all others once it is dispatched
abbrev pub DispatchMakesHeir : Type 0
DispatchMakesHeir =
    (old new : ℕ → Option Keyed) (next : ℕ) (dispatch : DispatchesInKeys old new next)
    → IsLeastInKeys old dispatch.id dispatch.task
    → IsHeirInKeys new dispatch.id (with_dispatch_number dispatch.task next)

-- a dispatch of another task keeps the dispatched least task
abbrev pub DispatchKeepsHeir : Type 0
DispatchKeepsHeir =
    (old new : ℕ → Option Keyed) (path : List Open) (next heir : ℕ) (task : Keyed)
    → DispatchesInKeys old new next → IsOrdered old path next → IsHeirInKeys old heir task → IsHeirInKeys new heir task

-- a new child keeps the dispatched least task
abbrev pub EnqueueKeepsHeir : Type 0
EnqueueKeepsHeir =
    (old new : ℕ → Option Keyed) (path : List Open) (next heir : ℕ) (task : Keyed)
    → EnqueuesInKeys old new → IsOrdered old path next → IsHeirInKeys old heir task → IsHeirInKeys new heir task

-- an abort of a set without the dispatched least task keeps it so
abbrev pub AbortKeepsHeir : Type 0
AbortKeepsHeir =
    (set : ℕ → Bool) (old new : ℕ → Option Keyed) (path : List Open) (next heir : ℕ) (task : Keyed)
    → AbortsInKeys set old new → set heir ≡ false → IsOrdered old path next → IsHeirInKeys old heir task
    → IsHeirInKeys new heir task

-- a coalescing and a split keep the dispatched least task
abbrev pub SpillKeepsHeir : Type 0
SpillKeepsHeir =
    (bound : ℕ) (old new : ℕ → Option Keyed) (before after : List Keyed) (path : List Open) (next heir : ℕ)
    (task : Keyed)
    → MovesInKeys bound old new before after → IsOrdered (beside bound old before) path next
    → IsHeirInKeys (beside bound old before) heir task → IsHeirInKeys (beside bound new after) heir task

-- a least task is still the least once it is spilled or has returned
abbrev pub SpillKeepsLeast : Type 0
SpillKeepsLeast =
    (bound : ℕ) (old new : ℕ → Option Keyed) (before after : List Keyed) (id now : ℕ) (task : Keyed)
    → MovesInKeys bound old new before after → IsLeastInKeys (beside bound old before) id task
    → beside bound new after now ≡ Some task
    → IsLeastInKeys (beside bound new after) now task

-- where a task pulls no other than its children and tasks above it, a cascade lies above what its first tasks lie above
abbrev pub CascadeLiesAbove : Type 0
CascadeLiesAbove =
    (tasks : ℕ → Option Keyed) (path : List Open) (next count : ℕ) (pull : ℕ → ℕ → Bool) (firsts marks : List Bool)
    (low : List Open)
    → IsOrdered tasks path next → PullsLater tasks pull → IsLeastClosed count pull (Marked firsts) marks
    → ((id : ℕ) → Marked firsts id → IsAbove tasks low id) → (id : ℕ) → Marked marks id → IsAbove tasks low id

-- a cascade whose first tasks lie above a task does not take it
abbrev pub CascadeSparesLower : Type 0
CascadeSparesLower =
    (tasks : ℕ → Option Keyed) (path : List Open) (next count : ℕ) (pull : ℕ → ℕ → Bool) (firsts marks : List Bool)
    (id : ℕ) (task : Keyed)
    → IsOrdered tasks path next → PullsLater tasks pull → IsLeastClosed count pull (Marked firsts) marks
    → tasks id ≡ Some task → ((k : ℕ) → Marked firsts k → IsAbove tasks (levels_of task) k) → Marked marks id → ⊥
