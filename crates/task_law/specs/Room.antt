-- How a full task queue gets a free place: four rules, tried in order (after Jeffrey et al. 2015, on limited queue
-- sizes).
use Rattle.std.specs.Prelude.{◌≡◌, ◌≢◌, ◌⊎◌, ℕ, ◌<◌, ◌≤◌, Bool, true, false, List, [], ◌∷◌, length, Option, Some}
use Rattle.std.specs.Prelude.{None, is_some}
use Rattle.std.specs.declared.cmp.Ordering.TheVariants.{Less, Greater}
use Rattle.fractal_vt.specs.Levels.{Open, levels_cmp}
use Rattle.task_law.specs.Tasks.{In}

-- what room reads of a task: its levels, whether it is dispatched, and the id of its creator where that is to
-- commit yet
pub record RoomTask : Type 0 where
  pub levels : List Open
  pub dispatched : Bool
  pub creator : Option ℕ

-- a firm task: its creator is committed, or is the dispatched least task
abbrev pub IsFirmInQueue : Option ℕ → RoomTask → Type 0
IsFirmInQueue heir task = (task.creator ≡ None) ⊎ ((l : ℕ) × (task.creator ≡ Some l) × (heir ≡ Some l))

-- an idle firm task of the queue
abbrev pub IsMovableInQueue : (ℕ → Option RoomTask) → Option ℕ → List ℕ → ℕ → Type 0
IsMovableInQueue tasks heir queue k =
    In k queue × (task : RoomTask) × (tasks k ≡ Some task) × (task.dispatched ≡ false) × IsFirmInQueue heir task

abbrev pub NoneMovesInQueue : (ℕ → Option RoomTask) → Option ℕ → List ℕ → Type 0
NoneMovesInQueue tasks heir queue = (k : ℕ) → IsMovableInQueue tasks heir queue k → ⊥

-- the victim: the latest task of the queue other than the one that asks
pub record IsVictimInQueue (tasks : ℕ → Option RoomTask) (queue : List ℕ) (asker : Option ℕ) (v : ℕ)
    (task : RoomTask) : Type 0 where
  pub there : tasks v ≡ Some task
  pub queued : In v queue
  pub other : asker ≢ Some v
  pub latest : (k : ℕ) (x : RoomTask) → In k queue → asker ≢ Some k → tasks k ≡ Some x
      → levels_cmp x.levels task.levels ≢ Greater

-- which task is aborted for the victim: itself where it is firm, and else its creator
abbrev pub IsFirst : Option ℕ → ℕ → RoomTask → ℕ → Type 0
IsFirst heir v task first = (IsFirmInQueue heir task × (first ≡ v))
    ⊎ ((IsFirmInQueue heir task → ⊥) × (task.creator ≡ Some first))

-- the rule that applies to a queue of this capacity: a place is free; or an idle firm task moves; or the requester,
-- which isn't the least task, stalls; or a victim is aborted for it
pub data Rule (tasks : ℕ → Option RoomTask) (heir : Option ℕ) (queue : List ℕ) (capacity : ℕ) (asker : Option ℕ)
    (is_least : Bool) : Type 0 where
  Free : length queue < capacity → Rule tasks heir queue capacity asker is_least
  Coalesces : length queue ≡ capacity → (k : ℕ) → IsMovableInQueue tasks heir queue k
      → Rule tasks heir queue capacity asker is_least
  Stalls : length queue ≡ capacity → NoneMovesInQueue tasks heir queue → is_least ≡ false
      → Rule tasks heir queue capacity asker is_least
  Takes : length queue ≡ capacity → NoneMovesInQueue tasks heir queue → is_least ≡ true
      → (v : ℕ) (task : RoomTask) (first : ℕ)
      → IsVictimInQueue tasks queue asker v task → IsFirst heir v task first
      → Rule tasks heir queue capacity asker is_least

-- the ids of a queue differ
abbrev pub IdsAreApart : List ℕ → Type 0
IdsAreApart [] = Unit {0}
IdsAreApart (k ∷ ks) = (In k ks → ⊥) × IdsAreApart ks

-- each id of the queue is a task's, and the ids differ
pub record IsQueue (tasks : ℕ → Option RoomTask) (queue : List ℕ) : Type 0 where
  pub there : (k : ℕ) → In k queue → (x : RoomTask) × (tasks k ≡ Some x)
  pub apart : IdsAreApart queue

-- some rule applies: in particular a full queue in which nothing moves has a victim
abbrev pub SomeRuleApplies : Type 0
SomeRuleApplies =
    (tasks : ℕ → Option RoomTask) (heir : Option ℕ) (queue : List ℕ) (capacity : ℕ) (asker : Option ℕ) (is_least : Bool)
    → IsQueue tasks queue → 2 ≤ capacity → length queue ≤ capacity → Rule tasks heir queue capacity asker is_least

-- a creator that is to commit yet is dispatched
abbrev pub CreatorsAreDispatched : (ℕ → Option RoomTask) → Type 0
CreatorsAreDispatched tasks =
    (k c : ℕ) (x : RoomTask) → tasks k ≡ Some x → x.creator ≡ Some c
    → (y : RoomTask) × (tasks c ≡ Some y) × (y.dispatched ≡ true)

-- the requester is the least task: queued, and then it is the dispatched least task, or spilled, and then `heir` is
-- None; its levels are these, and each other dispatched task is above them, by `dispatched_are_above_least`
pub record AsksAsLeastInQueue (tasks : ℕ → Option RoomTask) (heir asker : Option ℕ) (low : List Open) : Type 0 where
  pub is_heir : asker ≡ heir
  pub others_above : (k : ℕ) (x : RoomTask) → tasks k ≡ Some x → asker ≢ Some k → x.dispatched ≡ true
      → levels_cmp low x.levels ≡ Less

-- a task that may be aborted for the least one: it is dispatched, isn't the requester, and is above it
pub record MayAbort (tasks : ℕ → Option RoomTask) (asker : Option ℕ) (low : List Open) (first : ℕ) : Type 0 where
  pub task : RoomTask
  pub there : tasks first ≡ Some task
  pub dispatched : task.dispatched ≡ true
  pub other : asker ≢ Some first
  pub above : levels_cmp low task.levels ≡ Less

-- what is aborted for a victim may be aborted
abbrev pub VictimIsLegal : Type 0
VictimIsLegal =
    (tasks : ℕ → Option RoomTask) (heir : Option ℕ) (queue : List ℕ) (asker : Option ℕ) (low : List Open)
    (v first : ℕ) (task : RoomTask)
    → CreatorsAreDispatched tasks → AsksAsLeastInQueue tasks heir asker low → NoneMovesInQueue tasks heir queue
    → IsVictimInQueue tasks queue asker v task → IsFirst heir v task first
    → MayAbort tasks asker low first

-- with each member a set holds its children
abbrev pub HoldsChildren : (ℕ → Bool) → (ℕ → Option RoomTask) → Type 0
HoldsChildren set tasks = (k c : ℕ) (x : RoomTask) → tasks k ≡ Some x → x.creator ≡ Some c → set c ≡ true → set k ≡ true

-- a set is aborted: a member whose creator is a member leaves, and each other member is idle again, with these levels
pub record TakesBackInQueue (set : ℕ → Bool) (reopened : RoomTask → List Open)
    (old new : ℕ → Option RoomTask) : Type 0 where
  pub others : (k : ℕ) → set k ≡ false → new k ≡ old k
  pub gone : (k c : ℕ) (x : RoomTask) → set k ≡ true → old k ≡ Some x → x.creator ≡ Some c → set c ≡ true → new k ≡ None
  pub stays : (k : ℕ) (x : RoomTask) → set k ≡ true → old k ≡ Some x → ((c : ℕ) → x.creator ≡ Some c → set c ≡ false)
      → new k ≡ Some (record { levels = reopened x; dispatched = false; creator = x.creator })

abbrev pub kept_by : Bool → ℕ → List ℕ → List ℕ
kept_by true k rest = k ∷ rest
kept_by false k rest = rest

-- a queue without the ids of tasks that have gone
abbrev pub queue_after : (ℕ → Option RoomTask) → List ℕ → List ℕ
queue_after new [] = []
queue_after new (k ∷ ks) = kept_by (is_some (new k)) k (queue_after new ks)

-- after an abort of the cascade of a victim, or of its creator, the queue is shorter, or still contains the victim,
-- which is idle and firm, and moves
abbrev pub VictimMakesRoom : Type 0
VictimMakesRoom =
    (tasks new : ℕ → Option RoomTask) (heir : Option ℕ) (queue : List ℕ) (asker : Option ℕ) (low : List Open)
    (v first : ℕ) (task : RoomTask)
    (set : ℕ → Bool) (reopened : RoomTask → List Open)
    → AsksAsLeastInQueue tasks heir asker low → IsVictimInQueue tasks queue asker v task → IsFirst heir v task first
    → set first ≡ true → HoldsChildren set tasks → ((l : ℕ) → asker ≡ Some l → set l ≡ false)
    → TakesBackInQueue set reopened tasks new
    → (length (queue_after new queue) < length queue) ⊎ IsMovableInQueue new heir (queue_after new queue) v

-- each is at most as great as those after it
abbrev pub IsRising : (ℕ → Option RoomTask) → List ℕ → Type 0
IsRising tasks [] = Unit {0}
IsRising tasks (k ∷ ks) =
    ((j : ℕ) (x y : RoomTask) → In j ks → tasks k ≡ Some x → tasks j ≡ Some y
    → levels_cmp x.levels y.levels ≢ Greater) × IsRising tasks ks

-- the tasks that a tile coalesces, the least of them first: the latest movable ones, at most 8
pub record IsChosenInQueue (tasks : ℕ → Option RoomTask) (heir : Option ℕ) (queue chosen : List ℕ) : Type 0 where
  pub movable : (k : ℕ) → In k chosen → IsMovableInQueue tasks heir queue k
  pub few : length chosen ≤ 8
  pub all : length chosen < 8 → (k : ℕ) → IsMovableInQueue tasks heir queue k → In k chosen
  pub latest : (j k : ℕ) (x y : RoomTask) → In j chosen → IsMovableInQueue tasks heir queue k → (In k chosen → ⊥)
      → tasks j ≡ Some x → tasks k ≡ Some y → levels_cmp y.levels x.levels ≢ Greater
  pub rising : IsRising tasks chosen

-- where something moves, a coalescing makes the queue shorter
abbrev pub CoalesceShortensQueue : Type 0
CoalesceShortensQueue =
    (tasks new : ℕ → Option RoomTask) (heir : Option ℕ) (queue chosen : List ℕ) (k : ℕ)
    → IsChosenInQueue tasks heir queue chosen → IsMovableInQueue tasks heir queue k
    → ((j : ℕ) → In j chosen → new j ≡ None)
    → length (queue_after new queue) < length queue
