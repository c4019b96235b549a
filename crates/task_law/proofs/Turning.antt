-- The least task may take the next turn, and its commit is that turn.
use Rattle.std.proofs.Common.{◌≡◌, ℕ, suc, ◌+◌, ◌≤◌, ◌==◌, nat_le, Bool, true, false, List, [], ◌∷◌, length, Some, refl}
use Rattle.std.proofs.Common.{sym, ap, subst, inl, inr, arith, if◌then◌else◌}
use Rattle.std.proofs.lemmas.Bool.{false_from_ne_true, and_from}
use Rattle.std.proofs.lemmas.Bool.Decides.{nat_tests}
use Rattle.task_desc.specs.declared.desc.Name.{Name}
use Rattle.pending_list.specs.declared.task.PendingTask.{PendingTask}
use Rattle.run_law.specs.serial_machine.BagValue.{BagValue}
use Rattle.run_law.specs.serial_machine.State.{IsStack}
use Rattle.run_law.specs.serial_machine.Turn.{is_named, find_named, is_least, inner}
use Rattle.run_law.proofs.Below.serial_machine.Proved.{IsStack-inner}
use Rattle.task_law.specs.Tasks.{In, pending, IsFree, IsSpilled}
use Rattle.task_law.specs.Commit.{Stands, HasTurn, LeastHasTurn, HaveDomains, CommitIsTurn}
use Rattle.task_law.proofs.Bags.{Stands-inner, inner-Stands, shallow, Freed, after-stands, stands-after}
use Rattle.task_law.proofs.Freed.{named_same, same_named, free_same, free_after, after_free}

-- where each task is at or above a timestamp, none has a smaller one
least_from : (ts : ℕ) (tasks : List PendingTask) → ((p : PendingTask) → In p tasks → ts ≤ p.ts)
    → is_least ts tasks ≡ true
least_from ts [] low = refl
least_from ts (t ∷ tasks) low =
    let first = low t (inl refl) in
    let here : nat_le ts t.ts ≡ true = grind (arith, nat_tests) in
    and_from (nat_le ts t.ts) (is_least ts tasks) here (least_from ts tasks (λ p at. low p (inr at)))

-- the only task of a name is found
found_from : (name : Name) (task : PendingTask) (tasks : List PendingTask) → In task tasks → is_named name task ≡ true
    → ((p : PendingTask) → In p tasks → is_named name p ≡ true → p ≡ task) → find_named name tasks ≡ Some task
found_from name task [] at named only = absurd at
found_from name task (t ∷ tasks) at named only =
    by_test (is_named name t) refl at (λ later. found_from name task tasks later named (λ p at'. only p (inr at')))
  where
    by_test : (b : Bool) → is_named name t ≡ b → In task (t ∷ tasks)
        → (In task tasks → find_named name tasks ≡ Some task)
        → (if b then Some t else find_named name tasks) ≡ Some task
    by_test true e at' go = ap Some (only t (inl refl) e)
    by_test false e (inl here) go = absurd (cc (e, ap (is_named name) here, named))
    by_test false e (inr later) go = go later

-- the first bag of what is left of a stack holds a task
pub head_has : (stack : List BagValue) (bag : BagValue) (outer : List BagValue) → inner stack ≡ bag ∷ outer
    → (p : PendingTask) × In p bag.tasks
head_has [] bag outer e = absurd (cc)
head_has (b ∷ bs) bag outer e = by_test (length b.tasks == 0) refl (head_has bs bag outer) e
  where
    some_in : (tasks : List PendingTask) → (length tasks == 0) ≡ false → (p : PendingTask) × In p tasks
    some_in [] none = absurd (cc)
    some_in (p ∷ tasks) none = (p, inl refl)

    by_test : (t : Bool) → (length b.tasks == 0) ≡ t → (inner bs ≡ bag ∷ outer → (p : PendingTask) × In p bag.tasks)
        → (if t then inner bs else b ∷ bs) ≡ bag ∷ outer → (p : PendingTask) × In p bag.tasks
    by_test true test go e' = go e'
    by_test false test go e' =
        let same : b ≡ bag = cc in
        let one = some_in b.tasks test in
        (one.0, subst (In one.0) (ap (λ x. x.tasks) same) one.1)

pub least_has_turn : LeastHasTurn
least_has_turn count least id turn index runs tasks spilled stack task sound matches is_stack is_least' =
    by_stack (inner stack) refl
  where
    p : PendingTask
    p = pending turn index task.body task.ts

    free : IsFree tasks (IsSpilled spilled) count task.depth p
    free =
        inl (record { id = id; task = task; there = is_least'.there; turn = turn; index = index; creator = is_least'.creator; depth_is = refl; pending_is = refl })

    stands : Stands (inner stack) task.depth p
    stands = Stands-inner stack task.depth p ((matches task.depth p).0 free)

    is_free : (d : ℕ) (q : PendingTask) → Stands (inner stack) d q → IsFree tasks (IsSpilled spilled) count d q
    is_free d q at = (matches d q).1 (inner-Stands stack d q at)

    by_bag : (bag : BagValue) (outer : List BagValue) → inner stack ≡ bag ∷ outer → IsStack (bag ∷ outer)
        → (q : PendingTask) × In q bag.tasks → Stands (bag ∷ outer) task.depth p → HasTurn stack task.depth p
    by_bag bag outer top falls first at =
        let inside : (q : PendingTask) → In q bag.tasks → IsFree tasks (IsSpilled spilled) count bag.depth q = λ q in_bag. is_free bag.depth q (subst (λ s. Stands s bag.depth q) (sym top) (inl (refl, in_bag))) in
        let low : bag.depth ≤ task.depth = is_least'.deepest bag.depth first.0 (inside first.0 first.1) in
        let high : task.depth ≤ suc (length outer) = shallow (bag ∷ outer) task.depth p falls at in
        let deep : bag.depth ≡ task.depth = omega (arith, low, high, falls.0) in
        let here : In p bag.tasks = elim at [
          | inl mine ↦ mine.1
          | inr lower ↦ (let less : task.depth ≤ length outer = shallow outer task.depth p falls.2 lower in absurd (omega (arith, less, low, falls.0)))
        ] in
        record {
          bag = bag;
          outer = outer;
          may = record {
            top = top;
            found = found_from p.name p bag.tasks here (same_named p.name p refl)
                (λ q at' named. (free_same count least runs tasks spilled sound id task turn index is_least'.there is_least'.creator bag.depth q (inside q at') (named_same p.name q named)).1);
            least =
                least_from task.ts bag.tasks (λ q at'. is_least'.first q (subst (λ d. IsFree tasks (IsSpilled spilled) count d q) deep (inside q at')));
          };
          deep = deep;
        }

    by_stack : (s : List BagValue) → inner stack ≡ s → HasTurn stack task.depth p
    by_stack [] top = absurd (subst (λ s. Stands s task.depth p) top stands)
    by_stack (bag ∷ outer) top =
        by_bag bag outer top (subst IsStack top (IsStack-inner stack is_stack)) (head_has stack bag outer top) (subst (λ s. Stands s task.depth p) top stands)

pub commit_is_turn : CommitIsTurn
commit_is_turn count id turn index old new spilled stack task sub sound matches is_stack is have next depth p = (
  λ free. stands-after bag outer self (count + 1) task.ts task.spawns sub falls unique have' depth p (stood (free_after count id turn index old new spilled task sound is depth p free)),
  λ at. after_free count id turn index old new spilled task sound is depth p (freed (after-stands bag outer self (count + 1) task.ts task.spawns sub falls unique depth p at)),
)
  where
    self : Name
    self = record { creator = turn; index = index }

    bag : BagValue
    bag = next.bag

    outer : List BagValue
    outer = next.outer

    falls : IsStack (bag ∷ outer)
    falls = subst IsStack next.may.top (IsStack-inner stack is_stack)

    is_free : (d : ℕ) (q : PendingTask) → Stands (bag ∷ outer) d q → IsFree old (IsSpilled spilled) count d q
    is_free d q at = (matches d q).1 (inner-Stands stack d q (subst (λ s. Stands s d q) (sym next.may.top) at))

    unique : (d : ℕ) (q : PendingTask) → Stands outer d q → is_named self q ≡ false
    unique d q at = false_from_ne_true (is_named self q) (λ e.
        let same = (free_same count id true old spilled sound id task turn index is.there is.creator d q (is_free d q (inr at)) (named_same self q e)).0 in
        let less = shallow outer d q falls.2 at in
        let deep = next.deep in
        absurd (omega (arith, same, less, deep, falls.0)))

    have' : HaveDomains bag.depth sub task.spawns
    have' = subst (λ d. HaveDomains d sub task.spawns) (sym next.deep) have

    stood : Freed (IsFree old (IsSpilled spilled) count) (count + 1) task.depth self task.spawns depth p
        → Freed (Stands (bag ∷ outer)) (count + 1) bag.depth self task.spawns depth p
    stood (inl was) =
        inl (subst (λ s. Stands s depth p) next.may.top (Stands-inner stack depth p ((matches depth p).0 was.0)), was.1)
    stood (inr kid) =
        inr (subst (λ d. Rattle.task_law.proofs.Bags.IsNewChild (count + 1) d task.spawns depth p) (sym next.deep) kid)

    freed : Freed (Stands (bag ∷ outer)) (count + 1) bag.depth self task.spawns depth p
        → Freed (IsFree old (IsSpilled spilled) count) (count + 1) task.depth self task.spawns depth p
    freed (inl was) = inl (is_free depth p was.0, was.1)
    freed (inr kid) =
        inr (subst (λ d. Rattle.task_law.proofs.Bags.IsNewChild (count + 1) d task.spawns depth p) next.deep kid)
