-- Kinds and floors of the domains of free tasks, against the bags.
use Rattle.std.specs.Prelude.{◌≡◌, ◌⊎◌, ℕ, ◌+◌, ◌≤◌, List, [], ◌∷◌, length, map, Option, Some, None, slice_get}
use Rattle.guest_image.specs.declared.image.Kind.{Kind}
use Rattle.task_desc.specs.declared.desc.Ctx.{Ctx}
use Rattle.task_desc.specs.declared.desc.Spawn.{Spawn}
use Rattle.task_desc.specs.declared.desc.Place.{Place}
use Rattle.task_desc.specs.declared.desc.Place.TheVariants.{Same, Sub, Super}
use Rattle.pending_list.specs.declared.task.PendingTask.{PendingTask}
use Rattle.run_law.specs.serial_machine.BagValue.{BagValue}
use Rattle.run_law.specs.serial_machine.State.{IsStack}
use Rattle.run_law.specs.serial_machine.Turn.{context_in_bag, stack_after}
use Rattle.task_law.specs.Commit.{HasTurn, HaveDomains}

-- a domain's kind and floor
pub record Domain : Type 0 where
  pub kind : Kind
  pub floor : ℕ

abbrev pub domain_of : BagValue → Domain
domain_of bag = record { kind = bag.kind; floor = bag.floor }

-- the domains of a task, its own first, are those of the stack from some bag on
abbrev pub FitsBags : List Domain → List BagValue → Type 0
FitsBags domains [] = ⊥
FitsBags domains (bag ∷ outer) = (domains ≡ map domain_of (bag ∷ outer)) ⊎ FitsBags domains outer

-- the kind of the first of these domains
abbrev pub first_kind : List Domain → Option Kind
first_kind [] = None
first_kind (d ∷ ds) = Some d.kind

-- what the calls of a task depend on as it starts, by its own domain and those outside it
abbrev pub context_of_domains : ℕ → Domain → List Domain → ℕ → Ctx
context_of_domains version own outer ts =
    record {
      version = version;
      depth = length outer + 1;
      own = own.kind;
      outer = first_kind outer;
      ts = ts;
      floor = own.floor;
      sub = None;
      children = 0;
      bytes = 0;
    }

-- a task whose domains are those of the bags has in its own machine what the calls of its serial turn depend on
abbrev pub ContextFits : Type 0
ContextFits =
    (version : ℕ) (stack : List BagValue) (task : PendingTask) (own : Domain) (outer : List Domain) → IsStack stack
    → FitsBags (own ∷ outer) stack
    → (next : HasTurn stack (length outer + 1) task)
    → context_in_bag version next.bag next.outer task ≡ context_of_domains version own outer task.ts

-- the domains of a child: those of its creator, or a new one more, whose floor is the creator's timestamp, or one fewer
abbrev pub ChildDomains : List Domain → ℕ → Option Kind → Place → List Domain → Type 0
ChildDomains own ts sub Same child = child ≡ own
ChildDomains own ts sub Sub child =
    (kind : Kind) × (sub ≡ Some kind) × (child ≡ record { kind = kind; floor = ts } ∷ own)
ChildDomains own ts sub Super child = (d : Domain) × (own ≡ d ∷ child)

-- from one stack to the next, the domains of tasks of at most this depth stay, and the stack has those of the children
pub record KeepsDomains (depth ts : ℕ) (own : List Domain) (sub : Option Kind) (spawns : List Spawn)
    (old new : List BagValue) : Type 0 where
  pub others : (domains : List Domain) → length domains ≤ depth → FitsBags domains old → FitsBags domains new
  pub children : (index : ℕ) (spawn : Spawn) (domains : List Domain) → slice_get spawns index ≡ Some spawn
      → ChildDomains own ts sub spawn.place domains → FitsBags domains new

-- a turn keeps the domains of the other free tasks, and makes those of its children
abbrev pub TurnKeepsDomains : Type 0
TurnKeepsDomains =
    (stack : List BagValue) (task : PendingTask) (own : List Domain) (depth n : ℕ) (spawns : List Spawn)
    (sub : Option Kind)
    → IsStack stack → FitsBags own stack → length own ≡ depth → HaveDomains depth sub spawns
    → (next : HasTurn stack depth task)
    → KeepsDomains depth task.ts own sub spawns stack (stack_after next.bag next.outer task.name n task.ts spawns sub)
