-- What leaves the free tasks as they are: an abort, a coalescing, which spills one task after another, and a split.
use Rattle.std.specs.Prelude.{◌≡◌, ◌≢◌, ◌⊎◌, ℕ, Bool, true, false, List, [], ◌∷◌, ◌++◌, Option, Some, None}
use Rattle.task_desc.specs.declared.desc.Name.{Name}
use Rattle.pending_list.specs.declared.task.PendingTask.{PendingTask}
use Rattle.task_law.specs.Tasks.{BagTask, Live, Names, SpilledBagTask}
use Rattle.task_law.specs.Sound.{AreSound, SameFree}

-- an aborted task is idle again, and has no children
abbrev pub idle_bag_task : BagTask → BagTask
idle_bag_task task = record task { dispatched = false; spawns = [] }

-- a set is aborted: a member whose creator is a member leaves, and each other member is idle again
pub record TakesBackInBags (set : ℕ → Bool) (old new : ℕ → Option BagTask) : Type 0 where
  pub others : (k : ℕ) → set k ≡ false → new k ≡ old k
  pub gone : (k : ℕ) (x : BagTask) (creator index : ℕ) → set k ≡ true → old k ≡ Some x
      → x.creator ≡ Live creator index → set creator ≡ true → new k ≡ None
  pub stays : (k : ℕ) (x : BagTask) → set k ≡ true → old k ≡ Some x
      → ((creator index : ℕ) → x.creator ≡ Live creator index → set creator ≡ false) → new k ≡ Some (idle_bag_task x)
  pub none : (k : ℕ) → old k ≡ None → new k ≡ None

-- an abort leaves the free tasks as they are, and names apart and families whole
abbrev pub AbortKeepsTasks : Type 0
AbortKeepsTasks =
    (set : ℕ → Bool) (old new : ℕ → Option BagTask) (spilled : List SpilledBagTask) (count least : ℕ) (runs : Bool)
    → TakesBackInBags set old new
    → SameFree count old spilled new spilled
    × (AreSound count least runs old spilled → AreSound count least runs new spilled)

-- what the bags read of a task that is spilled under this name, its depth aside
abbrev pub with_name : Name → BagTask → PendingTask
with_name name task = record { name = name; entry = task.body.entry; ts = task.ts; args = task.body.args }

-- an idle firm task leaves its queue, and is spilled from then on; read backwards it is a spilled task that comes back
pub record SpillsInBags (count least : ℕ) (old new : ℕ → Option BagTask)
    (before after : ℕ → PendingTask → Type 0) (id : ℕ)
    (task : BagTask) (name : Name) : Type 0 where
  pub there : old id ≡ Some task
  pub idle : task.dispatched ≡ false
  pub gone : new id ≡ None
  pub others : (k : ℕ) → k ≢ id → new k ≡ old k
  pub named : Names count least task.creator name
  pub more : (depth : ℕ) (p : PendingTask) → before depth p → after depth p
  pub is_spilled : after task.depth (with_name name task)
  pub only : (depth : ℕ) (p : PendingTask) → after depth p
      → before depth p ⊎ ((depth ≡ task.depth) × (p ≡ with_name name task))

abbrev pub spilled_of : Name → BagTask → SpilledBagTask
spilled_of name task = record { depth = task.depth; task = with_name name task }

-- one idle firm task becomes a spilled one, at some place of the list; a child of the least task is firm only while
-- that is dispatched; read backwards it is a split
pub record SpillsOneInBags (count least : ℕ) (runs : Bool) (old new : ℕ → Option BagTask)
    (before after : List SpilledBagTask)
    (id : ℕ) : Type 0 where
  pub task : BagTask
  pub name : Name
  pub there : old id ≡ Some task
  pub idle : task.dispatched ≡ false
  pub gone : new id ≡ None
  pub others : (k : ℕ) → k ≢ id → new k ≡ old k
  pub named : Names count least task.creator name
  pub heir : (creator index : ℕ) → task.creator ≡ Live creator index → runs ≡ true
  pub front : List SpilledBagTask
  pub back : List SpilledBagTask
  pub before_is : before ≡ front ++ back
  pub after_is : after ≡ front ++ spilled_of name task ∷ back

-- one task after another becomes a spilled one
abbrev pub CoalescesInBags : ℕ → ℕ → Bool → List ℕ → (ℕ → Option BagTask) → List SpilledBagTask → (ℕ → Option BagTask)
    → List SpilledBagTask → Type 0
CoalescesInBags count least runs [] old before new after = ((k : ℕ) → new k ≡ old k) × (after ≡ before)
CoalescesInBags count least runs (id ∷ ids) old before new after =
    (mid : ℕ → Option BagTask) × (spilled : List SpilledBagTask)
    × SpillsOneInBags count least runs old mid before spilled id
    × CoalescesInBags count least runs ids mid spilled new after

-- a coalescing leaves the free tasks as they are, names apart, families whole and spilled tasks firm
abbrev pub CoalesceKeepsTasks : Type 0
CoalesceKeepsTasks =
    (ids : List ℕ) (old new : ℕ → Option BagTask) (before after : List SpilledBagTask) (count least : ℕ) (runs : Bool)
    → CoalescesInBags count least runs ids old before new after
    → SameFree count old before new after × (AreSound count least runs old before → AreSound count least runs new after)

-- a spilled task that comes back leaves the free tasks as they are, names apart, families whole and spilled tasks firm
abbrev pub SplitKeepsTasks : Type 0
SplitKeepsTasks =
    (id : ℕ) (old new : ℕ → Option BagTask) (before after : List SpilledBagTask) (count least : ℕ) (runs : Bool)
    → SpillsOneInBags count least runs new old after before id
    → SameFree count old before new after × (AreSound count least runs old before → AreSound count least runs new after)
