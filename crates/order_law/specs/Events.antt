-- What each event does to the tasks, as their order reads them: dispatch, abort, enqueue, commit and coalescing are
-- those of Swarm (Jeffrey et al. 2015), the three domains of a child those of Fractal (Subramanian et al. 2017).
use Rattle.std.specs.Prelude.{◌≡◌, ◌≢◌, ◌≤◌, ◌<◌, ◌⊎◌, ◌↔◌, ◌-◌, ℕ, nat_lt, Bool, true, false, List, length}
use Rattle.std.specs.Prelude.{slice_get, Option, Some, None, if◌then◌else◌}
use Rattle.std.specs.declared.cmp.Ordering.TheVariants.{Greater}
use Rattle.fractal_vt.specs.Levels.{Open, levels_cmp}
use Rattle.fractal_vt.specs.declared.vt.TheConstants.{MAX_LEVELS}
use Rattle.order_law.specs.Tasks.{Keyed, levels_of, HasNumber, IsTimely, IsSame, IsSub, IsSuper}

-- this id has the task `now`, or none, and all other ids have what they had
pub record Changes (old new : ℕ → Option Keyed) (id : ℕ) (now : Option Keyed) : Type 0 where
  pub changed : new id ≡ now
  pub others : (k : ℕ) → k ≢ id → new k ≡ old k

-- the task with this dispatch number
abbrev pub with_dispatch_number : Keyed → ℕ → Keyed
with_dispatch_number task number = record task { last = record { ts = task.last.ts; tb = Some number } }

-- the task without its dispatch number
abbrev pub with_open_level : Keyed → Keyed
with_open_level task = record task { last = record { ts = task.last.ts; tb = None } }

-- the task without its creator, once that one is committed
abbrev pub without_creator : Keyed → Keyed
without_creator task = record task { creator = None }

-- a dispatch: an idle task gets the next number
pub record DispatchesInKeys (old new : ℕ → Option Keyed) (next : ℕ) : Type 0 where
  pub id : ℕ
  pub task : Keyed
  pub there : old id ≡ Some task
  pub idle : task.last.tb ≡ None
  pub changes : Changes old new id (Some (with_dispatch_number task next))

-- an abort of a set that holds the children of its members: a member that stays is idle again and has no member for
-- its creator, all other tasks stay; any member may be gone, since the order needs no more
pub record AbortsInKeys (set : ℕ → Bool) (old new : ℕ → Option Keyed) : Type 0 where
  pub holds_children : (k c : ℕ) (x : Keyed) → old k ≡ Some x → x.creator ≡ Some c → set c ≡ true → set k ≡ true
  pub others : (k : ℕ) → set k ≡ false → new k ≡ old k
  pub members : (k : ℕ) (x : Keyed) → set k ≡ true → new k ≡ Some x
      → (y : Keyed) × (old k ≡ Some y) × (x ≡ with_open_level y) × ((c : ℕ) → y.creator ≡ Some c → set c ≡ false)

-- in an ordered domain the timestamp is not below the bound, and in an unordered one it is 0
pub record IsAllowed (child : Keyed) (bound : ℕ) : Type 0 where
  pub late : child.ordered ≡ true → bound ≤ child.last.ts
  pub timely : IsTimely child.ordered child.last

-- the child is in one of the three domains (`Place`), at a timestamp that its domain allows: from the creator's own
-- timestamp on in the creator's domain, at any in the subdomain if there may be one so deep, and from the floor of the
-- creator's domain on in the superdomain
abbrev pub IsPlaced : Keyed → Keyed → Type 0
IsPlaced creator child =
    (IsSame creator child × IsAllowed child creator.last.ts)
    ⊎ (IsSub creator child × IsTimely child.ordered child.last × (length child.domain < MAX_LEVELS))
    ⊎ ((level : Open) × IsSuper creator child level × IsAllowed child level.ts)

-- an enqueue: a dispatched task makes an idle child under an id that was vacant
pub record EnqueuesInKeys (old new : ℕ → Option Keyed) : Type 0 where
  pub creator : ℕ
  pub task : Keyed
  pub there : old creator ≡ Some task
  pub number : ℕ
  pub dispatched : HasNumber task number
  pub id : ℕ
  pub child : Keyed
  pub vacant : old id ≡ None
  pub idle : child.last.tb ≡ None
  pub made_by : child.creator ≡ Some creator
  pub placed : IsPlaced task child
  pub changes : Changes old new id (Some child)

-- no task is less
pub record IsLeastInKeys (tasks : ℕ → Option Keyed) (id : ℕ) (task : Keyed) : Type 0 where
  pub there : tasks id ≡ Some task
  pub least : (k : ℕ) (x : Keyed) → tasks k ≡ Some x → levels_cmp (levels_of task) (levels_of x) ≢ Greater

-- a commit: the task goes, its children have a committed creator, and all others stay
pub record CommitsInKeys (old new : ℕ → Option Keyed) (id : ℕ) : Type 0 where
  pub gone : new id ≡ None
  pub children : (k : ℕ) (x : Keyed) → k ≢ id → old k ≡ Some x → x.creator ≡ Some id → new k ≡ Some (without_creator x)
  pub others : (k : ℕ) (x : Keyed) → k ≢ id → old k ≡ Some x → x.creator ≢ Some id → new k ≡ Some x
  pub none : (k : ℕ) → old k ≡ None → new k ≡ None

-- the tasks of the queues by id, all below the bound, followed by the spilled ones of all blocks in any order; there a
-- child of the dispatched least task has that for its creator, and any other spilled task has none
abbrev pub beside : ℕ → (ℕ → Option Keyed) → List Keyed → ℕ → Option Keyed
beside bound queued spilled k = if nat_lt k bound then queued k else slice_get spilled (k - bound)

-- the task is one of the spilled ones
abbrev pub IsAmongSpilled : Keyed → List Keyed → Type 0
IsAmongSpilled task spilled = (place : ℕ) × (slice_get spilled place ≡ Some task)

-- the ids of the queued tasks are below the bound, and the spilled ones are all idle
pub record StandBeside (bound : ℕ) (queued : ℕ → Option Keyed) (spilled : List Keyed) : Type 0 where
  pub bounded : (k : ℕ) (x : Keyed) → queued k ≡ Some x → k < bound
  pub idle : (x : Keyed) → IsAmongSpilled x spilled → x.last.tb ≡ None

-- a coalescing or a split, of one task or of several: each task was queued or spilled before, and dispatched ones stay
pub record MovesInKeys (bound : ℕ) (old new : ℕ → Option Keyed) (before after : List Keyed) : Type 0 where
  pub kept_before : StandBeside bound old before
  pub kept_after : StandBeside bound new after
  pub queued : (k : ℕ) (x : Keyed) → new k ≡ Some x → (old k ≡ Some x) ⊎ IsAmongSpilled x before
  pub spilled : (x : Keyed) → IsAmongSpilled x after → IsAmongSpilled x before ⊎ ((k : ℕ) × (old k ≡ Some x))
  pub dispatched : (k n : ℕ) (x : Keyed) → HasNumber x n → (old k ≡ Some x) ↔ (new k ≡ Some x)
