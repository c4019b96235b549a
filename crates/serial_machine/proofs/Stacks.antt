-- Names that a bag has not, bags that leave a stack, and spare memory.
use Rattle.std.proofs.Common.{◌≡◌, refl, sym, ap, ◌∙◌, ◌≤◌, ◌<◌, ◌+◌, ℕ, zero, suc, Bool, true, false, not, ◌||◌, List}
use Rattle.std.proofs.Common.{[], ◌∷◌, length, take, drop, get_or, set, arith, if◌then◌else◌}
use Rattle.std.proofs.lemmas.List.{drop-drop}
use Rattle.std.specs.List.{list_any}
use Rattle.task_desc.specs.declared.desc.Name.{Name}
use Rattle.pending_list.specs.declared.task.PendingTask.{PendingTask}
use Rattle.serial_machine.specs.declared.bag.Bag.{Bag}
use Rattle.serial_machine.specs.Turn.{is_named, without_name, is_pending}
use Rattle.serial_machine.specs.Names.{times, one}
use Rattle.serial_machine.specs.Stack.{bag_value, bags, HaveSpare}

-- whether some bag holds a task of a name, told from what the code keeps
pub any_bag : (name : Name) (stack : List Bag)
    → list_any (λ b. list_any (is_named name) b.tasks.tasks) stack ≡ is_pending name (bags stack)
any_bag name [] = refl
any_bag name (bag ∷ stack) = ap (λ b. list_any (is_named name) bag.tasks.tasks || b) (any_bag name stack)

-- where a name doesn't stand nothing leaves
pub without_name-none : (name : Name) (tasks : List PendingTask) → times name tasks ≡ 0
    → without_name name tasks ≡ tasks
without_name-none name [] h = refl
without_name-none name (t ∷ ts) h = go (without_name-none name ts) (is_named name t) h where
  go : (times name ts ≡ 0 → without_name name ts ≡ ts) → (b : Bool) → one b + times name ts ≡ 0
      → (if not b then t ∷ without_name name ts else without_name name ts) ≡ t ∷ ts
  go ih true h = absurd (omega (arith, h))
  go ih false h = ap (λ r. t ∷ r) (ih (omega (arith, h)))

-- one more bag left
pub drop_next : {A : Type 0} (xs rest : List A) (x : A) (i : ℕ) → drop i xs ≡ x ∷ rest → rest ≡ drop (i + 1) xs
drop_next xs rest x i h = sym (ap (drop 1) h) ∙ drop-drop 1 i xs

pub HaveSpare-drop : (more k : ℕ) (stack : List Bag) → HaveSpare more stack → HaveSpare more (drop k stack)
HaveSpare-drop more zero stack h = h
HaveSpare-drop more (suc k) [] h = tt
HaveSpare-drop more (suc k) (bag ∷ stack) h = HaveSpare-drop more k stack h.1

-- a bag that says the same stands in place of another
pub bags-set : (stack : List Bag) (i : ℕ) (bag other : Bag) → i < length stack
    → bag_value bag ≡ bag_value (get_or stack i other) → bags (set stack i bag) ≡ bags stack
bags-set [] i bag other below same = refl
bags-set (b ∷ stack) zero bag other below same = ap (λ v. v ∷ bags stack) same
bags-set (b ∷ stack) (suc i) bag other below same =
    ap (λ r. bag_value b ∷ r) (bags-set stack i bag other (omega arith) same)

-- one more bag has spare memory
pub HaveSpare-set : (more : ℕ) (stack : List Bag) (i : ℕ) (bag : Bag) → i < length stack → more ≤ bag.tasks.spare
    → HaveSpare more (take i stack) → HaveSpare more (take (suc i) (set stack i bag))
HaveSpare-set more [] i bag below spare h = absurd (omega arith)
HaveSpare-set more (b ∷ stack) zero bag below spare h = (spare, tt)
HaveSpare-set more (b ∷ stack) (suc i) bag below spare h = (h.0, HaveSpare-set more stack i bag (omega arith) spare h.1)

pub bags-drop : (k : ℕ) (stack : List Bag) → bags (drop k stack) ≡ drop k (bags stack)
bags-drop zero stack = refl
bags-drop (suc k) [] = refl
bags-drop (suc k) (bag ∷ stack) = bags-drop k stack
