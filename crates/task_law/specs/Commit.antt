-- The commit of the least task is a turn of the serial machine, and keeps names apart, families whole and spilled
-- tasks firm.
use Rattle.std.specs.Prelude.{◌≡◌, ◌≢◌, ◌⊎◌, ◌↔◌, ℕ, ◌+◌, ◌≤◌, Bool, true, List, [], ◌∷◌, Option, Some, None, slice_get}
use Rattle.guest_image.specs.declared.image.Kind.{Kind}
use Rattle.task_desc.specs.declared.desc.Spawn.{Spawn}
use Rattle.task_desc.specs.declared.desc.Place.TheVariants.{Sub, Super}
use Rattle.pending_list.specs.declared.task.PendingTask.{PendingTask}
use Rattle.run_law.specs.serial_machine.BagValue.{BagValue}
use Rattle.run_law.specs.serial_machine.State.{IsStack}
use Rattle.run_law.specs.serial_machine.Turn.{MayTurn, stack_after}
use Rattle.task_law.specs.Tasks.{BagTask, Committed, Live, In, IsFree, SpilledBagTask, IsSpilled, pending}
use Rattle.task_law.specs.Sound.{AreSound}

-- a bag of this depth contains the task
abbrev pub Stands : List BagValue → ℕ → PendingTask → Type 0
Stands [] depth p = ⊥
Stands (bag ∷ outer) depth p = ((bag.depth ≡ depth) × In p bag.tasks) ⊎ Stands outer depth p

-- the free tasks are the pending tasks of the bags, each at its depth
abbrev pub Matches : ℕ → (ℕ → Option BagTask) → List SpilledBagTask → List BagValue → Type 0
Matches count tasks spilled stack =
    (depth : ℕ) (p : PendingTask) → IsFree tasks (IsSpilled spilled) count depth p ↔ Stands stack depth p

-- a queued free task that no other is below: no free task is deeper, and none of its depth has a smaller timestamp
-- (Subramanian et al. 2017: a subdomain commits whole before the tasks outside it); `least_is_innermost` gives it
pub record IsLeastInBags (count : ℕ) (tasks : ℕ → Option BagTask) (spilled : List SpilledBagTask) (id : ℕ)
    (task : BagTask)
    (turn index : ℕ) : Type 0 where
  pub there : tasks id ≡ Some task
  pub creator : task.creator ≡ Committed turn index
  pub deepest : (depth : ℕ) (p : PendingTask) → IsFree tasks (IsSpilled spilled) count depth p → depth ≤ task.depth
  pub first : (p : PendingTask) → IsFree tasks (IsSpilled spilled) count task.depth p → task.ts ≤ p.ts

-- the task may take the next turn, from a bag of this depth
pub record HasTurn (stack : List BagValue) (depth : ℕ) (task : PendingTask) : Type 0 where
  pub bag : BagValue
  pub outer : List BagValue
  pub may : MayTurn stack task.name bag outer task
  pub deep : bag.depth ≡ depth

-- the least task may take the next turn
abbrev pub LeastHasTurn : Type 0
LeastHasTurn =
    (count least id turn index : ℕ) (runs : Bool) (tasks : ℕ → Option BagTask) (spilled : List SpilledBagTask)
    (stack : List BagValue) (task : BagTask)
    → AreSound count least runs tasks spilled → Matches count tasks spilled stack → IsStack stack
    → IsLeastInBags count tasks spilled id task turn index
    → HasTurn stack task.depth (pending turn index task.body task.ts)

-- a queued child whose creator has committed as the n-th
abbrev pub with_turn : BagTask → ℕ → ℕ → BagTask
with_turn task turn index = record task { creator = Committed turn index }

-- the task leaves, its queued children are those of the turn, and all others stay
pub record CommitsInBags (old new : ℕ → Option BagTask) (id turn : ℕ) : Type 0 where
  pub gone : new id ≡ None
  pub children : (k : ℕ) (x : BagTask) (index : ℕ) → k ≢ id → old k ≡ Some x → x.creator ≡ Live id index
      → new k ≡ Some (with_turn x turn index)
  pub others : (k : ℕ) (x : BagTask) → k ≢ id → old k ≡ Some x → ((index : ℕ) → x.creator ≢ Live id index)
      → new k ≡ Some x
  pub none : (k : ℕ) → old k ≡ None → new k ≡ None

-- a child for a subdomain has one, and a child for the superdomain has one: the calls of a task allow no other. It is
-- a premise of `CommitIsTurn`, and none of `LeastCommitsSerially`, where it is proved of the run
pub record HaveDomains (depth : ℕ) (sub : Option Kind) (spawns : List Spawn) : Type 0 where
  pub inside : (index : ℕ) (spawn : Spawn) → slice_get spawns index ≡ Some spawn → spawn.place ≡ Sub
      → (kind : Kind) × (sub ≡ Some kind)
  pub outside : (index : ℕ) (spawn : Spawn) → slice_get spawns index ≡ Some spawn → spawn.place ≡ Super → 2 ≤ depth

-- a dispatched task with a committed creator commits as the next turn
pub record IsNextTurn (count : ℕ) (old new : ℕ → Option BagTask) (id : ℕ) (task : BagTask)
    (turn index : ℕ) : Type 0 where
  pub there : old id ≡ Some task
  pub dispatched : task.dispatched ≡ true
  pub creator : task.creator ≡ Committed turn index
  pub commits : CommitsInBags old new id (count + 1)

-- where a task that may take the next turn commits, the free tasks are the pending ones of the stack after that turn
abbrev pub CommitIsTurn : Type 0
CommitIsTurn =
    (count id turn index : ℕ) (old new : ℕ → Option BagTask) (spilled : List SpilledBagTask) (stack : List BagValue)
    (task : BagTask) (sub : Option Kind)
    → AreSound count id true old spilled → Matches count old spilled stack → IsStack stack
    → IsNextTurn count old new id task turn index
    → HaveDomains task.depth sub task.spawns → (next : HasTurn stack task.depth (pending turn index task.body task.ts))
    → Matches (count + 1) new spilled
    (stack_after next.bag next.outer (record { creator = turn; index = index }) (count + 1) task.ts task.spawns sub)

-- a commit of the least task keeps names apart, families whole and spilled tasks firm, whichever task is the least
-- one next
abbrev pub CommitKeepsTasks : Type 0
CommitKeepsTasks =
    (count id turn index least : ℕ) (runs : Bool) (old new : ℕ → Option BagTask) (spilled : List SpilledBagTask)
    (task : BagTask)
    → AreSound count id true old spilled → IsNextTurn count old new id task turn index
    → AreSound (count + 1) least runs new spilled
