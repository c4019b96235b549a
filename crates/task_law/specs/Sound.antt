-- What a sound view keeps about names and children.
use Rattle.std.specs.Prelude.{◌≡◌, ◌≢◌, ◌⊎◌, ◌↔◌, ℕ, ◌+◌, ◌≤◌, Bool, true, false, List, [], ◌∷◌, Option, Some}
use Rattle.task_desc.specs.declared.desc.Name.{Name}
use Rattle.pending_list.specs.declared.task.PendingTask.{PendingTask}
use Rattle.task_law.specs.Tasks.{BagTask, Committed, In, IsFree, IsFamily, Names, SpilledBagTask, IsSpilled}

-- tasks of one creator and place are one
abbrev pub CreatorsAreDistinct : (ℕ → Option BagTask) → Type 0
CreatorsAreDistinct tasks = (a b : ℕ) (x y : BagTask) → tasks a ≡ Some x → tasks b ≡ Some y
    → x.creator ≡ y.creator → a ≡ b

-- no queued task has the name of a spilled one
abbrev pub NamesAreApart : ℕ → ℕ → (ℕ → Option BagTask) → (ℕ → PendingTask → Type 0) → Type 0
NamesAreApart count least tasks spilled =
    (id : ℕ) (x : BagTask) (name : Name) (depth : ℕ) (p : PendingTask) → tasks id ≡ Some x
    → Names count least x.creator name → spilled depth p → p.name ≢ name

-- the name is none of a list of spilled tasks
abbrev pub IsFresh : Name → List SpilledBagTask → Type 0
IsFresh name spilled = (e : SpilledBagTask) → In e spilled → e.task.name ≢ name

-- the names of a list of spilled tasks differ
abbrev pub NamesDiffer : List SpilledBagTask → Type 0
NamesDiffer [] = Unit {0}
NamesDiffer (e ∷ es) = IsFresh e.task.name es × NamesDiffer es

-- a spilled task is firm: its creator is committed, or is the least task, which is dispatched then
abbrev pub AreFirm : ℕ → Bool → (ℕ → PendingTask → Type 0) → Type 0
AreFirm count runs spilled =
    (depth : ℕ) (p : PendingTask) → spilled depth p
    → (p.name.creator ≤ count) ⊎ ((p.name.creator ≡ count + 1) × (runs ≡ true))

-- creators that have committed took one of the turns so far, names are apart, spilled tasks are firm, and the
-- children of each dispatched task are those that it has enqueued; `least` is the id of the least task, and `runs`
-- says whether it is dispatched
pub record AreSound (count least : ℕ) (runs : Bool) (tasks : ℕ → Option BagTask)
    (spilled : List SpilledBagTask) : Type 0 where
  pub counted : (id : ℕ) (task : BagTask) (turn index : ℕ) → tasks id ≡ Some task
      → task.creator ≡ Committed turn index → turn ≤ count
  pub distinct : CreatorsAreDistinct tasks
  pub apart : NamesAreApart count least tasks (IsSpilled spilled)
  pub differ : NamesDiffer spilled
  pub firm : AreFirm count runs (IsSpilled spilled)
  pub families : (id : ℕ) (task : BagTask) → tasks id ≡ Some task → task.dispatched ≡ true
      → IsFamily tasks (IsSpilled spilled) count least id task

-- the free tasks are the same ones, each at its depth
abbrev pub SameFree : ℕ → (ℕ → Option BagTask) → List SpilledBagTask → (ℕ → Option BagTask)
    → List SpilledBagTask → Type 0
SameFree count old before new after =
    (depth : ℕ) (p : PendingTask)
    → IsFree old (IsSpilled before) count depth p ↔ IsFree new (IsSpilled after) count depth p

-- while the least task is not dispatched it does not matter which one it is
abbrev pub IdleLeastIsAny : Type 0
IdleLeastIsAny =
    (count least other : ℕ) (runs : Bool) (tasks : ℕ → Option BagTask) (spilled : List SpilledBagTask)
    → AreSound count least false tasks spilled
    → AreSound count other runs tasks spilled
