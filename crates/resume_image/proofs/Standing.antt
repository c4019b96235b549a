-- What holds of the stack in every state that a run leads to.
use Rattle.std.proofs.Common.{◌≡◌, refl, sym, subst, ℕ, ◌+◌, ◌≤◌, ◌==◌, Bool, true, false, List, [], ◌∷◌, ◌++◌, length}
use Rattle.std.proofs.Common.{Option, Some, None, if◌then◌else◌, arith, lit≤}
use Rattle.std.specs.List.{AllByRecursion}
use Rattle.guest_image.specs.ImageValue.{ImageValue}
use Rattle.guest_image.specs.declared.image.Kind.{Kind}
use Rattle.task_desc.specs.declared.desc.Name.{Name}
use Rattle.task_desc.specs.declared.desc.Spawn.{Spawn}
use Rattle.task_desc.specs.declared.desc.Place.TheVariants.{Same, Sub, Super}
use Rattle.pending_list.specs.declared.task.PendingTask.{PendingTask}
use Rattle.run_journal.specs.declared.journal.Entry.{Entry}
use Rattle.conflict_book.specs.serial_machine.BagValue.{BagValue}
use Rattle.conflict_book.specs.serial_machine.Legs.{SubFits}
use Rattle.conflict_book.specs.serial_machine.Run.{IsRun, Runs, opening}
use Rattle.conflict_book.specs.serial_machine.State.{IsStack, SerialState}
use Rattle.conflict_book.specs.serial_machine.Turn.{children, context_in_bag, inner, stack_after, sub_bags, with_super}
use Rattle.conflict_book.specs.serial_machine.Turn.{without_name}
use Rattle.conflict_book.proofs.Below.serial_machine.Proved.{EndHolds, IsStack-after, IsStack-inner, task_run-sub_fits}
use Rattle.conflict_book.proofs.Below.run_law.Proved.{turn-did, Turned}
use Rattle.resume_image.proofs.Bags.{AreGood, good_inner}
use Rattle.resume_image.proofs.Rising.{AreOld, IsOld, image_numbered, image_settled, old_after}
use Rattle.resume_image.proofs.Settled.{IsSettled, done_settles}

-- the outermost bag is that of the image's domain
abbrev pub IsRooted : Kind → List BagValue → Type 0
IsRooted kind [] = Unit {0}
IsRooted kind (bag ∷ []) = (bag.kind ≡ kind) × (bag.floor ≡ 0)
IsRooted kind (bag ∷ next ∷ outer) = IsRooted kind (next ∷ outer)

rooted_front : (kind : Kind) (bag : BagValue) (outer : List BagValue) → IsRooted kind (bag ∷ outer)
    → IsRooted kind outer
rooted_front kind bag [] root = tt
rooted_front kind bag (next ∷ outer) root = root

pub rooted_inner : (kind : Kind) (stack : List BagValue) → IsRooted kind stack → IsRooted kind (inner stack)
rooted_inner kind [] root = tt
rooted_inner kind (bag ∷ outer) root =
    go (length bag.tasks == 0) (rooted_inner kind outer (rooted_front kind bag outer root))
  where
    go : (b : Bool) → IsRooted kind (inner outer) → IsRooted kind (if b then inner outer else bag ∷ outer)
    go true rest = rest
    go false rest = root

rooted_super : (kind : Kind) (bag : BagValue) (own tasks : List PendingTask) (outer : List BagValue)
    → IsRooted kind (bag ∷ outer)
    → IsRooted kind (record bag { tasks = own } ∷ with_super tasks outer)
rooted_super kind bag own tasks [] root = root
rooted_super kind bag own tasks (next ∷ []) root = root
rooted_super kind bag own tasks (next ∷ more ∷ outer) root = root

rooted_sub : (kind : Kind) (depth floor owner : ℕ) (tasks : List PendingTask) (sub : Option Kind) (bag : BagValue) (rest : List BagValue)
    → IsRooted kind (bag ∷ rest) → IsRooted kind (sub_bags depth floor owner tasks sub ++ bag ∷ rest)
rooted_sub kind depth floor owner tasks None bag rest root = root
rooted_sub kind depth floor owner tasks (Some own) bag rest root = go (length tasks == 0)
  where
    go : (b : Bool)
        → IsRooted kind ((if b then [] else record { depth = depth; kind = own; floor = floor; owner = owner; tasks = tasks } ∷ []) ++ bag ∷ rest)
    go true = root
    go false = root

rooted_after : (kind : Kind) (bag : BagValue) (outer : List BagValue) (name : Name) (n ts : ℕ) (spawns : List Spawn) (sub : Option Kind)
    → IsRooted kind (bag ∷ outer) → IsRooted kind (stack_after bag outer name n ts spawns sub)
unfolding stack_after
rooted_after kind bag outer name n ts spawns sub root =
    rooted_sub kind (bag.depth + 1) ts n (children Sub n spawns) sub (record bag { tasks = without_name name bag.tasks ++ children Same n spawns })
    (with_super (children Super n spawns) outer) (rooted_super kind bag (without_name name bag.tasks ++ children Same n spawns) (children Super n spawns) outer root)

pub record Stands (image : ImageValue) (s : SerialState) : Type 0 where
  pub stack : IsStack s.stack
  pub root : IsRooted image.kind s.stack
  pub old : AreGood (AreOld s.count) s.stack

pub opening_stands : (image : ImageValue) → Stands image (opening image)
opening_stands image =
    let numbered = image_numbered image.kind 0 image.tasks in
    record {
      stack = (refl, lit≤ tt, tt);
      root = (refl, refl);
      old = (record { rise = numbered.rise; each = join _ numbered.each (image_settled image.kind 0 image.tasks) }, tt);
    }
  where
    join : (ts : List PendingTask) → AllByRecursion (λ (t : PendingTask). (t.name.creator ≡ 0) × (0 ≤ t.name.index)) ts
        → AllByRecursion (λ (t : PendingTask). IsSettled image.kind t.ts) ts → AllByRecursion (IsOld 0 image.kind) ts
    join [] one two = tt
    join (t ∷ ts) one two = ((omega (arith, one.0.0), two.0), join ts one.1 two.1)

pub turn_stands : (image : ImageValue) (budget : ℕ) (s after : SerialState) (name : Name) (e : Entry)
    → Turned image budget s after name e → Stands image s → Stands image after
turn_stands image budget s after name e did stands =
    let deep : IsStack (did.bag ∷ did.outer) = subst IsStack did.may.top (IsStack-inner s.stack stands.stack) in
    let root : IsRooted image.kind (did.bag ∷ did.outer) = subst (IsRooted image.kind) did.may.top (rooted_inner image.kind s.stack stands.root) in
    let old : AreGood (AreOld s.count) (did.bag ∷ did.outer) = subst (AreGood (AreOld s.count)) did.may.top (good_inner (AreOld s.count) s.stack stands.old) in
    let fits : SubFits did.bag.depth did.done.sub =
    subst (EndHolds (λ task. SubFits did.bag.depth task.sub)) did.run
    (task_run-sub_fits image budget (context_in_bag image.version did.bag did.outer did.task) did.task.entry did.task.args s.memory) in
    subst (Stands image) (sym did.state) (record {
      stack = IsStack-after did.bag did.outer name (s.count + 1) did.task.ts did.done.spawns did.done.sub deep fits;
      root = rooted_after image.kind did.bag did.outer name (s.count + 1) did.task.ts did.done.spawns did.done.sub root;
      old =
          old_after s.count did.bag did.outer name did.task.ts did.done.spawns did.done.sub
          (done_settles image budget s did.bag did.outer did.task did.done did.run) old;
    })

runs_stand : (image : ImageValue) (budget : ℕ) (s : SerialState) (es : List Entry) (last : SerialState)
    → Runs image budget s es last → Stands image s → Stands image last
runs_stand image budget s [] last done stands = subst (Stands image) done stands
runs_stand image budget s (e ∷ es) last (mid, turned, rest) stands =
    runs_stand image budget mid es last rest (turn_stands image budget s mid e.name e (turn-did image budget s mid e.name e turned) stands)

pub run_stands : (image : ImageValue) (budget : ℕ) (es : List Entry) (last : SerialState) → IsRun image budget es last
    → Stands image last
run_stands image budget es last run = runs_stand image budget (opening image) es last run (opening_stands image)
