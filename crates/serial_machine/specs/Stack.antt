-- The stack of bags as the code keeps it.
use Rattle.std.specs.Prelude.{◌≡◌, ◌≤◌, ◌<◌, ℕ, List, [], ◌∷◌, ◌++◌, map, length, drop, false, Option, Some, None, All}
use Rattle.task_desc.specs.declared.desc.Name.{Name}
use Rattle.task_desc.specs.declared.desc.Spawn.{Spawn}
use Rattle.task_desc.specs.declared.desc.Place.TheVariants.{Same, Super}
use Rattle.serial_machine.specs.declared.bag.Bag.{Bag}
use Rattle.serial_machine.specs.BagValue.{BagValue}
use Rattle.pending_list.specs.declared.task.PendingTask.{PendingTask}
use Rattle.serial_machine.specs.declared.fault.TurnFault.{TurnFault}
use Rattle.serial_machine.specs.declared.fault.TurnFault.TheVariants as faults
use Rattle.serial_machine.specs.State.{SerialState}
use Rattle.serial_machine.specs.Turn.{inner, without_name, children, with_super, is_pending, MayTurn, IsNotTop}
use Rattle.serial_machine.specs.Turn.{IsNotLeast}

-- what a bag says, whatever is spare in it
abbrev pub bag_value : Bag → BagValue
bag_value bag =
    record { depth = bag.depth; kind = bag.kind; floor = bag.floor; owner = bag.owner; tasks = bag.tasks.tasks }

abbrev pub bags : List Bag → List BagValue
bags stack = map bag_value stack

-- the state that the parts of a machine say
abbrev pub state_of : List Bag → List ℕ → List ℕ → ℕ → SerialState
state_of stack memory output count = record { stack = bags stack; memory = memory; output = output; count = count }

-- the innermost bag that isn't empty has this place
abbrev pub IsTopAt : List Bag → ℕ → Type 0
IsTopAt stack place = (place < length stack) × (inner (bags stack) ≡ bags (drop place stack))

-- a new bag, if there is one
abbrev pub new_bags : Option Bag → List BagValue
new_bags None = []
new_bags (Some bag) = bag_value bag ∷ []

-- in each bag memory for so many more tasks is spare
abbrev pub HaveSpare : ℕ → List Bag → Type 0
HaveSpare more [] = Unit {0}
HaveSpare more (bag ∷ stack) = (more ≤ bag.tasks.spare) × HaveSpare more stack

-- the tasks were made before this turn
abbrev pub AreOlder : ℕ → List PendingTask → Type 0
AreOlder turn tasks = All (λ t. t.name.creator < turn) tasks

-- the pending tasks were made before this turn
abbrev pub AreAllOlder : ℕ → List BagValue → Type 0
AreAllOlder turn [] = Unit {0}
AreAllOlder turn (bag ∷ outer) = AreOlder turn bag.tasks × AreAllOlder turn outer

-- the stack after a name left the first bag and the children joined their domains, of which the new ones come first
abbrev pub stack_behind_turn : Name → ℕ → List Spawn → List BagValue → List BagValue → List BagValue
stack_behind_turn name owner spawns new [] = new
stack_behind_turn name owner spawns new (bag ∷ outer) =
    new ++ record bag { tasks = without_name name bag.tasks ++ children Same owner spawns }
    ∷ with_super (children Super owner spawns) outer

-- the first of these bags holds the task of a name, which may take the next turn of a stack
abbrev pub IsSelectedFrom : List BagValue → Name → PendingTask → List Bag → Type 0
IsSelectedFrom full name task [] = ⊥
IsSelectedFrom full name task (bag ∷ outer) = MayTurn full name (bag_value bag) (bags outer) task

-- the bag at a place holds the task of a name, which may take the next turn
pub record IsSelected (stack : List Bag) (name : Name) (place : ℕ) (task : PendingTask) : Type 0 where
  pub within : place < length stack
  pub may : IsSelectedFrom (bags stack) name task (drop place stack)

-- why no task is selected by a name
abbrev pub IsUnselected : List BagValue → Name → TurnFault → Type 0
IsUnselected stack name faults.NotPending = is_pending name stack ≡ false
IsUnselected stack name (faults.NotTop depth) = IsNotTop stack name depth
IsUnselected stack name (faults.NotLeast ts) = IsNotLeast stack name ts
IsUnselected stack name (faults.Trap cause pc) = ⊥
IsUnselected stack name faults.Memory = ⊥
