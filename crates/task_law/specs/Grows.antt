-- How tasks and families grow: a placement adds a task, a dispatch begins a family, and an enqueue adds a child to it.
use Rattle.std.specs.Prelude.{◌≡◌, ◌≢◌, ◌⊎◌, ◌↔◌, ℕ, ◌≤◌, Bool, true, false, List, [], ◌∷◌, ◌++◌, length, Option}
use Rattle.std.specs.Prelude.{Some, None}
use Rattle.task_desc.specs.declared.desc.Spawn.{Spawn}
use Rattle.pending_list.specs.declared.task.PendingTask.{PendingTask}
use Rattle.task_law.specs.Tasks.{BagTask, Committed, Live, spawn_body, IsChildDepth, IsFree, pending, SpilledBagTask}
use Rattle.task_law.specs.Tasks.{IsSpilled}
use Rattle.task_law.specs.Sound.{AreSound, IsFresh, SameFree}

-- an idle task, which has made no child, is dispatched
pub record DispatchesInBags (old new : ℕ → Option BagTask) (id : ℕ) (task : BagTask) : Type 0 where
  pub there : old id ≡ Some task
  pub idle : task.dispatched ≡ false
  pub fresh : task.spawns ≡ []
  pub childless : (k index : ℕ) (x : BagTask) → old k ≡ Some x → x.creator ≢ Live id index
  pub new_is : new id ≡ Some (record task { dispatched = true })
  pub others : (k : ℕ) → k ≢ id → new k ≡ old k

-- a dispatch leaves the free tasks as they are, names apart, families whole and spilled tasks firm; where the least
-- task is dispatched, it is from then on
abbrev pub DispatchKeepsTasks : Type 0
DispatchKeepsTasks =
    (old new : ℕ → Option BagTask) (spilled : List SpilledBagTask) (count least id : ℕ) (task : BagTask)
    (runs now : Bool)
    → DispatchesInBags old new id task
    → (id ≡ least → runs ≡ false) → (runs ≡ true → now ≡ true)
    → SameFree count old spilled new spilled
    × (AreSound count least runs old spilled → AreSound count least now new spilled)

-- the new child, which is the next one of its creator
abbrev pub made_by : ℕ → BagTask → Spawn → ℕ → BagTask
made_by id task spawn depth =
    record {
      depth = depth;
      body = spawn_body spawn;
      ts = spawn.ts;
      creator = Live id (length task.spawns);
      dispatched = false;
      spawns = [];
    }

-- a dispatched task enqueues a child, which is queued under an id that was unused
pub record EnqueuesInBags (old new : ℕ → Option BagTask) (id child : ℕ) (task : BagTask) (spawn : Spawn)
    (depth : ℕ) : Type 0 where
  pub there : old id ≡ Some task
  pub dispatched : task.dispatched ≡ true
  pub unused : old child ≡ None
  pub place : IsChildDepth task.depth spawn.place depth
  pub new_is : new id ≡ Some (record task { spawns = task.spawns ++ spawn ∷ [] })
  pub made : new child ≡ Some (made_by id task spawn depth)
  pub others : (k : ℕ) → k ≢ id → k ≢ child → new k ≡ old k

-- an enqueue leaves the free tasks as they are, names apart, families whole and spilled tasks firm
abbrev pub EnqueueKeepsTasks : Type 0
EnqueueKeepsTasks =
    (old new : ℕ → Option BagTask) (spilled : List SpilledBagTask) (count least id child : ℕ) (task : BagTask)
    (spawn : Spawn) (depth : ℕ) (runs : Bool)
    → EnqueuesInBags old new id child task spawn depth
    → SameFree count old spilled new spilled
    × (AreSound count least runs old spilled → AreSound count least runs new spilled)

-- a task with a committed creator, as one of the image has, is placed in a queue; no other task has its name
pub record PlacesInBags (count : ℕ) (old new : ℕ → Option BagTask) (spilled : List SpilledBagTask) (id : ℕ)
    (task : BagTask)
    (turn index : ℕ) : Type 0 where
  pub unused : old id ≡ None
  pub new_is : new id ≡ Some task
  pub others : (k : ℕ) → k ≢ id → new k ≡ old k
  pub creator : task.creator ≡ Committed turn index
  pub counted : turn ≤ count
  pub idle : task.dispatched ≡ false
  pub other_names : (k : ℕ) (x : BagTask) → old k ≡ Some x → x.creator ≢ Committed turn index
  pub fresh : IsFresh (record { creator = turn; index = index }) spilled

-- a placement makes the task free beside those that were, and keeps names apart, families whole and spilled tasks firm
abbrev pub PlacementKeepsTasks : Type 0
PlacementKeepsTasks =
    (old new : ℕ → Option BagTask) (spilled : List SpilledBagTask) (count least id turn index : ℕ) (task : BagTask)
    (runs : Bool)
    → PlacesInBags count old new spilled id task turn index
    → ((depth : ℕ) (p : PendingTask) → IsFree new (IsSpilled spilled) count depth p
    ↔ (IsFree old (IsSpilled spilled) count depth p
    ⊎ ((depth ≡ task.depth) × (p ≡ pending turn index task.body task.ts))))
    × (AreSound count least runs old spilled → AreSound count least runs new spilled)

-- where no task exists, names are apart, families whole and spilled tasks firm
abbrev pub NoTasksAreSound : Type 0
NoTasksAreSound =
    (count least : ℕ) (runs : Bool) (tasks : ℕ → Option BagTask) → ((id : ℕ) → tasks id ≡ None)
    → AreSound count least runs tasks []
