-- A turn of a task that is selected and done, and the stack after it.
use Rattle.std.proofs.Common.{◌≡◌, refl, sym, ap, ◌≤◌, ◌+◌, ◌-◌, ◌∙◌, ◌==◌, ℕ, zero, suc, Bool, true, false, List, []}
use Rattle.std.proofs.Common.{◌∷◌, ◌++◌, length, Option, Some, None, if◌then◌else◌, arith, subst, drop}
use Rattle.std.proofs.lemmas.Grind.{common_steps}
use Rattle.std.proofs.lemmas.List.{nil_from_length}
use Rattle.std.proofs.lemmas.Bool.Decides.{nat_tests}
use Rattle.task_desc.specs.declared.calls.TheConstants.{MAX_DEPTH}
use Rattle.task_desc.specs.declared.desc.Place.TheVariants.{Sub, Super}
use Rattle.guest_image.specs.declared.image.Kind.{Kind}
use Rattle.task_desc.specs.declared.desc.Name.{Name}
use Rattle.task_desc.specs.declared.desc.Spawn.{Spawn}
use Rattle.pending_list.specs.declared.task.PendingTask.{PendingTask}
use Rattle.serial_machine.specs.BagValue.{BagValue}
use Rattle.guest_image.specs.ImageValue.{ImageValue}
use Rattle.serial_machine.specs.TaskState.{TaskState}
use Rattle.serial_machine.specs.State.{SerialState, IsStack}
use Rattle.serial_machine.specs.TaskRun.{Done, Trapped, TaskEnd, task_run, after_instructions, task_at_start}
use Rattle.task_desc.specs.declared.desc.Ctx.{Ctx}
use Rattle.serial_machine.specs.Legs.{SubFits, FinishesRun}
use Rattle.serial_machine.specs.declared.running.RunEnd.TheVariants as run_ends
use Rattle.serial_machine.specs.declared.bag.Bag.{Bag}
use Rattle.serial_machine.specs.Stack.{bag_value, bags, stack_behind_turn, IsSelected, IsSelectedFrom, AreAllOlder}
use Rattle.serial_machine.specs.Names.{AreNamed}
use Rattle.serial_machine.proofs.Naming.{all-older}
use Rattle.serial_machine.proofs.Stacks.{bags-drop}
use Rattle.serial_machine.specs.Turn.{context_in_bag, with_super, sub_bags, stack_after, children, inner, is_pending}
use Rattle.serial_machine.specs.Turn.{MayTurn, run_in_bag, turn}

pub length-with_super : (tasks : List PendingTask) (outer : List BagValue)
    → length (with_super tasks outer) ≡ length outer
length-with_super tasks [] = refl
length-with_super tasks (b ∷ bs) = refl

pub IsStack-with_super : (tasks : List PendingTask) (outer : List BagValue) → IsStack outer
    → IsStack (with_super tasks outer)
IsStack-with_super tasks [] h = tt
IsStack-with_super tasks (b ∷ bs) h = h

-- at most one bag more
pub IsStack-chosen : (b : Bool) (bag : BagValue) (rest : List BagValue) → bag.depth ≡ length rest + 1
    → bag.depth ≤ MAX_DEPTH → IsStack rest → IsStack ((if b then [] else bag ∷ []) ++ rest)
IsStack-chosen true bag rest e le h = h
IsStack-chosen false bag rest e le h = (e, le, h)

pub IsStack-sub : (depth floor owner : ℕ) (tasks : List PendingTask) (sub : Option Kind) (rest : List BagValue)
    → depth ≡ length rest → depth ≤ MAX_DEPTH → SubFits depth sub → IsStack rest
    → IsStack (sub_bags (depth + 1) floor owner tasks sub ++ rest)
IsStack-sub depth floor owner tasks None rest e le fits h = h
IsStack-sub depth floor owner tasks (Some kind) rest e le fits h =
    IsStack-chosen (length tasks == 0) _ rest (omega arith) (omega arith) h

pub IsStack-after : (bag : BagValue) (outer : List BagValue) (name : Name) (n ts : ℕ) (spawns : List Spawn) (sub : Option Kind)
    → IsStack (bag ∷ outer) → SubFits bag.depth sub → IsStack (stack_after bag outer name n ts spawns sub)
unfolding stack_after
IsStack-after bag outer name n ts spawns sub h fits =
    IsStack-sub bag.depth ts n (children Sub n spawns) sub _ (omega (arith, h.0, length-with_super (children Super n spawns) outer)) h.1 fits
    (omega (arith, h.0, length-with_super (children Super n spawns) outer), h.1, IsStack-with_super (children Super n spawns) outer h.2)

-- the same names are pending in the stack from the innermost bag on that isn't empty
pub is_pending-inner : (name : Name) (stack : List BagValue) → is_pending name (inner stack) ≡ is_pending name stack
is_pending-inner name [] = refl
is_pending-inner name (bag ∷ outer) = go (is_pending-inner name outer) (length bag.tasks == 0) refl where
  go : is_pending name (inner outer) ≡ is_pending name outer → (b : Bool) → (length bag.tasks == 0) ≡ b
      → is_pending name (if b then inner outer else bag ∷ outer) ≡ is_pending name (bag ∷ outer)
  go ih true e = let z : bag.tasks ≡ [] = grind (arith, nat_tests, common_steps, nil_from_length) in rw z ih
  go ih false e = refl

-- a task of the innermost bag takes its turn
pub turn-done : (image : ImageValue) (budget : ℕ) (s : SerialState) (name : Name) (bag : BagValue) (outer : List BagValue) (task : PendingTask) (t : TaskState)
    → MayTurn s.stack name bag outer task → run_in_bag image budget s bag outer task ≡ Done t
    → turn image budget s name ≡ Some (record { stack = stack_after bag outer name (s.count + 1) task.ts t.spawns t.sub; memory = t.memory; output = s.output ++ t.bytes; count = s.count + 1 }, record { name = name; depth = bag.depth; ts = task.ts })
unfolding turn
turn-done image budget s name bag outer task t m r = rw (m.top, m.found, m.least, r) refl

pub finish-done : (o : TaskEnd) (t : TaskState) → FinishesRun o run_ends.Done t → o ≡ Done t
finish-done (Done u) t h = ap Done (sym h)
finish-done (Trapped cause pc) t h = absurd h

pub finish-trapped : (o : TaskEnd) (cause pc : ℕ) (t : TaskState) → FinishesRun o (run_ends.Trapped cause pc) t
    → o ≡ Trapped cause pc
finish-trapped (Done u) cause pc t h = absurd h
finish-trapped (Trapped c p) cause pc t h = rw (h.0, h.1) refl

-- the instructions of a task that has done nothing are its run
pub after_instructions-task_at_start : (image : ImageValue) (budget : ℕ) (ctx : Ctx) (entry ts : ℕ) (args memory before : List ℕ) (task : TaskState)
    → ctx.ts ≡ ts → before ≡ memory → task ≡ task_at_start image.version entry ts args before
    → after_instructions image budget ctx (budget - task.core.used) task ≡ task_run image budget ctx entry args memory
unfolding task_run
after_instructions-task_at_start image budget ctx entry ts args memory before task at same is =
    let all : budget - 0 ≡ budget = omega arith in
    ap (λ t. after_instructions image budget ctx (budget - t.core.used) t) is
    ∙ ap (λ k. after_instructions image budget ctx k (task_at_start image.version entry ts args before)) all
    ∙ ap (λ m. after_instructions image budget ctx budget (task_at_start image.version entry ts args m)) same
    ∙ ap (λ t. after_instructions image budget ctx budget (task_at_start image.version entry t args memory)) (sym at)

-- the emptied bags go
pub IsStack-inner : (stack : List BagValue) → IsStack stack → IsStack (inner stack)
IsStack-inner [] h = h
IsStack-inner (bag ∷ outer) h = go (length bag.tasks == 0) (IsStack-inner outer h.2) where
  go : (b : Bool) → IsStack (inner outer) → IsStack (if b then inner outer else bag ∷ outer)
  go true ih = ih
  go false ih = h

-- the task that was selected may take the next turn from the bag that stands there
pub may_turn : (stack one two outer : List Bag) (bag : Bag) (name : Name) (place : ℕ) (task : PendingTask) → one ≡ stack
    → two ≡ stack
    → IsSelected one name place task → drop place two ≡ bag ∷ outer
    → MayTurn (bags stack) name (bag_value bag) (bags outer) task
may_turn stack one two outer bag name place task e f selected stands =
    let At : List Bag → Type 0 = λ s. IsSelected s name place task in
    let here = subst At e selected in
    let From : List Bag → Type 0 = IsSelectedFrom (bags stack) name task in
    subst From (ap (drop place) (sym f) ∙ stands) here.may

-- the tasks from there on were made before
pub older-at : (place count : ℕ) (stack : List BagValue) → AreNamed count stack
    → AreAllOlder (count + 1) (drop place stack)
older-at place count stack named = go place stack (all-older count stack named) where
  go : (k : ℕ) (rest : List BagValue) → AreAllOlder (count + 1) rest → AreAllOlder (count + 1) (drop k rest)
  go zero rest older = older
  go (suc k) [] older = tt
  go (suc k) (bag ∷ rest) older = go k rest older.1

-- the stack after a turn, as the code makes it
pub stack-after : (stack two outer : List Bag) (bag : Bag) (new : List BagValue) (name : Name) (place n ts depth : ℕ) (spawns : List Spawn) (sub : Option Kind)
    → two ≡ stack → drop place two ≡ bag ∷ outer → depth ≡ bag.depth
    → new ≡ stack_behind_turn name n spawns (sub_bags (depth + 1) ts n (children Sub n spawns) sub)
    (drop place (bags stack))
    → new ≡ stack_after (bag_value bag) (bags outer) name n ts spawns sub
unfolding stack_after
stack-after stack two outer bag new name place n ts depth spawns sub f stands deep is =
    is
    ∙ ap (stack_behind_turn name n spawns (sub_bags (depth + 1) ts n (children Sub n spawns) sub)) (sym (ap bags (sym stands) ∙ bags-drop place two ∙ ap (λ s. drop place (bags s)) f))
    ∙ ap (λ d. stack_behind_turn name n spawns (sub_bags (d + 1) ts n (children Sub n spawns) sub) (bag_value bag ∷ bags outer)) deep

-- the turn of a task that is done
pub turn-taken : (image : ImageValue) (budget : ℕ) (s : SerialState) (name : Name) (bag : BagValue) (outer stack : List BagValue) (task : PendingTask) (ctx : Ctx) (memory output : List ℕ) (t : TaskState)
    → MayTurn s.stack name bag outer task → ctx ≡ context_in_bag image.version bag outer task
    → task_run image budget ctx task.entry task.args s.memory ≡ Done t
    → stack ≡ stack_after bag outer name (s.count + 1) task.ts t.spawns t.sub → memory ≡ t.memory
    → output ≡ s.output ++ t.bytes
    → turn image budget s name ≡ Some (record { stack = stack; memory = memory; output = output; count = s.count + 1 }, record { name = name; depth = ctx.depth; ts = task.ts })
turn-taken image budget s name bag outer stack task ctx memory output t may at ran left kept told =
    let run : run_in_bag image budget s bag outer task ≡ Done t = ap (λ x. task_run image budget x task.entry task.args s.memory) (sym at) ∙ ran in
    rw (left, kept, told, ap (λ x. x.depth) at) (turn-done image budget s name bag outer task t may run)
