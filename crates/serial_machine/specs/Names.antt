-- How often a name is pending, and which task comes next.
use Rattle.std.specs.Prelude.{ℕ, ◌≤◌, ◌+◌, nat_le, Bool, true, false, List, [], ◌∷◌, Option, Some, None}
use Rattle.task_desc.specs.declared.desc.Name.{Name}
use Rattle.pending_list.specs.declared.task.PendingTask.{PendingTask}
pub use Rattle.pending_list.specs.Pending.{earlier, first_least}
use Rattle.serial_machine.specs.BagValue.{BagValue}
use Rattle.serial_machine.specs.Turn.{is_named, MayTurn}

abbrev pub one : Bool → ℕ
one true = 1
one false = 0

-- how often a list of tasks has a name
abbrev pub times : Name → List PendingTask → ℕ
times name [] = 0
times name (t ∷ ts) = one (is_named name t) + times name ts

-- how often a stack has a name
abbrev pub times_in : Name → List BagValue → ℕ
times_in name [] = 0
times_in name (b ∷ bs) = times name b.tasks + times_in name bs

-- each name is pending at most once, and none whose creator is still to commit
abbrev pub AreNamed : ℕ → List BagValue → Type 0
AreNamed count stack = (name : Name) → times_in name stack ≤ one (nat_le name.creator count)

abbrev pub name_of : Option PendingTask → Option Name
name_of None = None
name_of (Some t) = Some t.name

-- the name of the first task with the least timestamp of the first bag
abbrev pub next_in : List BagValue → Option Name
next_in [] = None
next_in (bag ∷ outer) = name_of (first_least bag.tasks)

-- the name may take the next turn
pub record IsNext (stack : List BagValue) (name : Name) : Type 0 where
  pub bag : BagValue
  pub outer : List BagValue
  pub task : PendingTask
  pub may : MayTurn stack name bag outer task
