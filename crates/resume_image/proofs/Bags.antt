-- What holds of the tasks of each bag, by the kind of its domain, is kept by a turn.
use Rattle.std.proofs.Common.{◌≡◌, refl, ◌==◌, ℕ, ◌+◌, Bool, true, false, List, [], ◌∷◌, ◌++◌, length, Option, Some}
use Rattle.std.proofs.Common.{None, if◌then◌else◌}
use Rattle.guest_image.specs.declared.image.Kind.{Kind}
use Rattle.task_desc.specs.declared.desc.Name.{Name}
use Rattle.task_desc.specs.declared.desc.Spawn.{Spawn}
use Rattle.task_desc.specs.declared.desc.Place.TheVariants.{Same, Sub, Super}
use Rattle.pending_list.specs.declared.task.PendingTask.{PendingTask}
use Rattle.conflict_book.specs.serial_machine.BagValue.{BagValue}
use Rattle.conflict_book.specs.serial_machine.Turn.{children, inner, kind_outside, stack_after, sub_bags, with_super}
use Rattle.conflict_book.specs.serial_machine.Turn.{without_name}

module _ (Good : Kind → List PendingTask → Type 0) where
  abbrev pub AreGood : List BagValue → Type 0
  AreGood [] = Unit {0}
  AreGood (bag ∷ outer) = Good bag.kind bag.tasks × AreGood outer

  pub good_inner : (stack : List BagValue) → AreGood stack → AreGood (inner stack)
  good_inner [] good = tt
  good_inner (bag ∷ outer) good = go (length bag.tasks == 0) (good_inner outer good.1)
    where
      go : (b : Bool) → AreGood (inner outer) → AreGood (if b then inner outer else bag ∷ outer)
      go true rest = rest
      go false rest = good

  good_sub : (depth floor owner : ℕ) (tasks : List PendingTask) (sub : Option Kind) (rest : List BagValue)
      → ((kind : Kind) → sub ≡ Some kind → Good kind tasks) → AreGood rest
      → AreGood (sub_bags depth floor owner tasks sub ++ rest)
  good_sub depth floor owner tasks None rest inside good = good
  good_sub depth floor owner tasks (Some kind) rest inside good = go (length tasks == 0)
    where
      go : (b : Bool)
          → AreGood ((if b then [] else record { depth = depth; kind = kind; floor = floor; owner = owner; tasks = tasks } ∷ []) ++ rest)
      go true = good
      go false = (inside kind refl, good)

-- what held of each bag before a turn, what holds after it, and why
module _ (Before Good : Kind → List PendingTask → Type 0) (stays : (kind : Kind) (tasks : List PendingTask) → Before kind tasks → Good kind tasks) where
  good_stays : (stack : List BagValue) → AreGood Before stack → AreGood Good stack
  good_stays [] good = tt
  good_stays (bag ∷ outer) good = (stays bag.kind bag.tasks good.0, good_stays outer good.1)

  good_super : (tasks : List PendingTask) (outer : List BagValue)
      → ((kind : Kind) → kind_outside outer ≡ Some kind → (own : List PendingTask) → Before kind own → Good kind (own ++ tasks))
      → AreGood Before outer → AreGood Good (with_super tasks outer)
  good_super tasks [] above good = tt
  good_super tasks (bag ∷ outer) above good = (above bag.kind refl bag.tasks good.0, good_stays outer good.1)

  pub good_after : (bag : BagValue) (outer : List BagValue) (name : Name) (n ts : ℕ) (spawns : List Spawn) (sub : Option Kind)
      → AreGood Before (bag ∷ outer)
      → Good bag.kind (without_name name bag.tasks ++ children Same n spawns)
      → ((kind : Kind) → sub ≡ Some kind → Good kind (children Sub n spawns))
      → ((kind : Kind) → kind_outside outer ≡ Some kind → (own : List PendingTask) → Before kind own → Good kind (own ++ children Super n spawns))
      → AreGood Good (stack_after bag outer name n ts spawns sub)
  unfolding stack_after
  good_after bag outer name n ts spawns sub good own inside above =
      good_sub Good (bag.depth + 1) ts n (children Sub n spawns) sub _ inside (own, good_super (children Super n spawns) outer above good.1)
