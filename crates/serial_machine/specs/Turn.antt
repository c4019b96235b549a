-- One turn of the serial machine.
use Rattle.std.specs.Prelude.{◌≡◌, ◌<◌, ℕ, ◌+◌, ◌==◌, nat_le, Bool, true, false, List, [], ◌∷◌, ◌++◌, length, map}
use Rattle.std.specs.Prelude.{filter, Option, Some, None, if◌then◌else◌, Contains}
use Rattle.std.specs.List.{enumerate_from, list_all, list_any}
use Rattle.guest_image.specs.declared.image.Kind.{Kind}
use Rattle.guest_image.specs.ImageValue.{ImageValue}
use Rattle.task_desc.specs.declared.desc.Name.{Name}
use Rattle.task_desc.specs.declared.desc.Spawn.{Spawn}
use Rattle.task_desc.specs.declared.desc.Ctx.{Ctx}
use Rattle.task_desc.specs.declared.desc.Place.{Place}
use Rattle.task_desc.specs.declared.desc.Place.TheVariants.{Same, Sub, Super}
use Rattle.pending_list.specs.declared.task.PendingTask.{PendingTask}
pub use Rattle.pending_list.specs.Pending.{is_named, find_named, without_name}
use Rattle.run_journal.specs.declared.journal.Entry.{Entry}
use Rattle.serial_machine.specs.declared.fault.TurnFault.{TurnFault}
use Rattle.serial_machine.specs.declared.fault.TurnFault.TheVariants as faults
use Rattle.serial_machine.specs.BagValue.{BagValue}
use Rattle.serial_machine.specs.State.{SerialState}
use Rattle.serial_machine.specs.TaskRun.{task_run, TaskEnd, Done, Trapped}

-- whether no task has a smaller timestamp
abbrev pub is_least : ℕ → List PendingTask → Bool
is_least ts tasks = list_all (λ t. nat_le ts t.ts) tasks

-- the stack from the innermost bag on that isn't empty
abbrev pub inner : List BagValue → List BagValue
inner [] = []
inner (bag ∷ outer) = if length bag.tasks == 0 then inner outer else bag ∷ outer

-- whether some bag holds a task of a name
abbrev pub is_pending : Name → List BagValue → Bool
is_pending name stack = list_any (λ b. list_any (is_named name) b.tasks) stack

-- the kind of the next domain out
abbrev pub kind_outside : List BagValue → Option Kind
kind_outside [] = None
kind_outside (bag ∷ outer) = Some bag.kind

-- what the calls of a task of a bag depend on as it starts, in an image of this version
abbrev pub context_in_bag : ℕ → BagValue → List BagValue → PendingTask → Ctx
context_in_bag version bag outer task = record {
  version = version;
  depth = bag.depth;
  own = bag.kind;
  outer = kind_outside outer;
  ts = task.ts;
  floor = bag.floor;
  sub = None;
  children = 0;
  bytes = 0;
}

abbrev pub place_number : Place → ℕ
place_number Same = 0
place_number Sub = 1
place_number Super = 2

-- the child at a place among the spawns of the task that commits as the n-th
abbrev pub child : ℕ → ℕ × Spawn → PendingTask
child n e = record { name = record { creator = n; index = e.0 }; entry = e.1.entry; ts = e.1.ts; args = e.1.args }

-- whether a spawn is for a domain
abbrev pub is_for : Place → ℕ × Spawn → Bool
is_for place e = place_number e.1.place == place_number place

-- the children for a domain of the task that commits as the n-th, each named by its place among all its spawns
unfoldable pub children : Place → ℕ → List Spawn → List PendingTask
children place n spawns = map (child n) (filter (is_for place) (enumerate_from 0 spawns))

-- the bag of a new subdomain; none is made for no task
abbrev pub sub_bags : ℕ → ℕ → ℕ → List PendingTask → Option Kind → List BagValue
sub_bags depth floor owner tasks None = []
sub_bags depth floor owner tasks (Some kind) =
    if length tasks == 0 then []
    else record { depth = depth; kind = kind; floor = floor; owner = owner; tasks = tasks } ∷ []

-- the bags outside, with further tasks at the end of the next one out
abbrev pub with_super : List PendingTask → List BagValue → List BagValue
with_super tasks [] = []
with_super tasks (bag ∷ outer) = record bag { tasks = bag.tasks ++ tasks } ∷ outer

-- the stack after the turn of a task of its innermost bag: the name leaves the bag, and the children join their domains
unfoldable pub stack_after : BagValue → List BagValue → Name → ℕ → ℕ → List Spawn → Option Kind → List BagValue
stack_after bag outer name n ts spawns sub =
    sub_bags (bag.depth + 1) ts n (children Sub n spawns) sub
    ++ record bag { tasks = without_name name bag.tasks ++ children Same n spawns }
    ∷ with_super (children Super n spawns) outer

-- the run of a task of a bag, on the memory of the state
abbrev pub run_in_bag : ImageValue → ℕ → SerialState → BagValue → List BagValue → PendingTask → TaskEnd
run_in_bag image budget s bag outer task =
    task_run image budget (context_in_bag image.version bag outer task) task.entry task.args s.memory

-- a task that traps takes no turn
abbrev pub after_run : SerialState → Name → BagValue → List BagValue → PendingTask → TaskEnd
    → Option (SerialState × Entry)
after_run s name bag outer task (Trapped cause pc) = None
after_run s name bag outer task (Done t) =
    Some (
      record {
        stack = stack_after bag outer name (s.count + 1) task.ts t.spawns t.sub;
        memory = t.memory;
        output = s.output ++ t.bytes;
        count = s.count + 1;
      },
      record { name = name; depth = bag.depth; ts = task.ts },
    )

abbrev pub turn_of_task : ImageValue → ℕ → SerialState → Name → BagValue → List BagValue → Option PendingTask
    → Option (SerialState × Entry)
turn_of_task image budget s name bag outer None = None
turn_of_task image budget s name bag outer (Some task) =
    if is_least task.ts bag.tasks then after_run s name bag outer task
    (run_in_bag image budget s bag outer task) else None

abbrev pub turn_from_stack : ImageValue → ℕ → SerialState → Name → List BagValue → Option (SerialState × Entry)
turn_from_stack image budget s name [] = None
turn_from_stack image budget s name (bag ∷ outer) =
    turn_of_task image budget s name bag outer (find_named name bag.tasks)

-- the state after the turn of a name, and its entry in the journal; none where the name takes no turn
unfoldable pub turn : ImageValue → ℕ → SerialState → Name → Option (SerialState × Entry)
turn image budget s name = turn_from_stack image budget s name (inner s.stack)

-- the turn of a name leads from one state to another, and has this entry
abbrev pub TakesTurn : ImageValue → ℕ → SerialState → Name → SerialState → Entry → Type 0
TakesTurn image budget before name after entry = turn image budget before name ≡ Some (after, entry)

-- the task of a name may take the next turn: it is in the innermost bag that isn't empty, with a least timestamp
-- there
pub record MayTurn (stack : List BagValue) (name : Name) (bag : BagValue) (outer : List BagValue)
    (task : PendingTask) : Type 0 where
  pub top : inner stack ≡ bag ∷ outer
  pub found : find_named name bag.tasks ≡ Some task
  pub least : is_least task.ts bag.tasks ≡ true

-- the name is in a bag outside the innermost one that isn't empty, which has this depth
pub record IsNotTop (stack : List BagValue) (name : Name) (depth : ℕ) : Type 0 where
  pub pending : is_pending name stack ≡ true
  pub bag : BagValue
  pub outer : List BagValue
  pub top : inner stack ≡ bag ∷ outer
  pub elsewhere : find_named name bag.tasks ≡ None
  pub told : depth ≡ bag.depth

-- the name is in the innermost bag that isn't empty, beside a task with this smaller timestamp
pub record IsNotLeast (stack : List BagValue) (name : Name) (ts : ℕ) : Type 0 where
  pub bag : BagValue
  pub outer : List BagValue
  pub task : PendingTask
  pub top : inner stack ≡ bag ∷ outer
  pub found : find_named name bag.tasks ≡ Some task
  pub smaller : ts < task.ts
  pub stands : Contains (map (λ t. t.ts) bag.tasks) ts

-- the task of a name may take the next turn, and its run ends in this trap
pub record TrapsSo (image : ImageValue) (budget : ℕ) (s : SerialState) (name : Name) (cause pc : ℕ) : Type 0 where
  pub bag : BagValue
  pub outer : List BagValue
  pub task : PendingTask
  pub may : MayTurn s.stack name bag outer task
  pub run : run_in_bag image budget s bag outer task ≡ Trapped cause pc

-- why a name takes no turn; the first four exclude each other, and memory may run out whatever else is so
abbrev pub RefusesTurn : ImageValue → ℕ → SerialState → Name → TurnFault → Type 0
RefusesTurn image budget s name faults.NotPending = is_pending name s.stack ≡ false
RefusesTurn image budget s name (faults.NotTop depth) = IsNotTop s.stack name depth
RefusesTurn image budget s name (faults.NotLeast ts) = IsNotLeast s.stack name ts
RefusesTurn image budget s name (faults.Trap cause pc) = TrapsSo image budget s name cause pc
RefusesTurn image budget s name faults.Memory = Unit {0}
