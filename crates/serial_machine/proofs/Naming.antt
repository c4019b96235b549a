-- Names stand at most once, and the first of the least may take the next turn.
use Rattle.std.proofs.Common.{◌≡◌, refl, sym, ap, ◌∙◌, ◌≢◌, ◌≤◌, ◌<◌, ◌+◌, ◌==◌, ◌&&◌, not, ℕ, zero, suc, Bool, true}
use Rattle.std.proofs.Common.{false, List, [], ◌∷◌, ◌++◌, length, get_or, subst, map, filter, Option, Some, None}
use Rattle.std.proofs.Common.{if◌then◌else◌, nat_le, nat_lt, arith}
use Rattle.std.specs.List.{enumerate_from}
use Rattle.std.proofs.lemmas.Grind.{common_steps}
use Rattle.std.proofs.lemmas.List.{nil_from_length}
use Rattle.std.proofs.lemmas.Bool.Decides.{nat_tests}
use Rattle.guest_image.specs.declared.image.Kind.{Kind}
use Rattle.task_desc.specs.declared.desc.Name.{Name}
use Rattle.task_desc.specs.declared.desc.Spawn.{Spawn}
use Rattle.task_desc.specs.declared.desc.Place.{Place}
use Rattle.task_desc.specs.declared.desc.Place.TheVariants.{Same, Sub, Super}
use Rattle.pending_list.specs.declared.task.PendingTask.{PendingTask}
use Rattle.serial_machine.specs.BagValue.{BagValue}
use Rattle.serial_machine.specs.Names.{one, times, times_in, AreNamed, first_least, earlier, IsNext, next_in, name_of}
use Rattle.serial_machine.specs.Stack.{AreAllOlder}
use Rattle.serial_machine.specs.Turn.{is_named, without_name, inner, child, children, sub_bags, with_super, stack_after}
use Rattle.serial_machine.specs.Turn.{is_least, find_named, is_for}
use Rattle.serial_machine.specs.Run.{image_task}
use Rattle.guest_image.specs.declared.image.ImageTask.{ImageTask}
use Rattle.std.specs.Prelude.{MatchOption, Contains}
use Rattle.std.proofs.lemmas.Option.{none-some, same_Some}

pub times-append : (x : Name) (xs ys : List PendingTask) → times x (xs ++ ys) ≡ times x xs + times x ys
times-append x [] ys = omega arith
times-append x (t ∷ ts) ys = omega (arith, times-append x ts ys)

pub times_in-inner : (x : Name) (stack : List BagValue) → times_in x (inner stack) ≡ times_in x stack
times_in-inner x [] = refl
times_in-inner x (bag ∷ outer) = go (times_in-inner x outer) (length bag.tasks == 0) refl where
  go : times_in x (inner outer) ≡ times_in x outer → (b : Bool) → (length bag.tasks == 0) ≡ b
      → times_in x (if b then inner outer else bag ∷ outer) ≡ times_in x (bag ∷ outer)
  go ih true e =
      let z : bag.tasks ≡ [] = grind (arith, nat_tests, common_steps, nil_from_length) in rw z (omega (arith, ih))
  go ih false e = refl

pub times-without_name : (x name : Name) (tasks : List PendingTask) → times x (without_name name tasks) ≤ times x tasks
times-without_name x name [] = omega arith
times-without_name x name (t ∷ ts) = go (times-without_name x name ts) (is_named name t) where
  go : times x (without_name name ts) ≤ times x ts → (b : Bool)
      → times x (if not b then t ∷ without_name name ts else without_name name ts) ≤ one (is_named x t) + times x ts
  go ih true = omega (arith, ih)
  go ih false = omega (arith, ih)

-- the children for a domain, from a place among the spawns on
abbrev pub children_for : Place → ℕ → ℕ → List Spawn → List PendingTask
children_for place n k spawns = map (child n) (filter (is_for place) (enumerate_from k spawns))

abbrev pub all_children : ℕ → ℕ → List Spawn → List PendingTask
all_children n k spawns = map (child n) (enumerate_from k spawns)

pub times-children : (x : Name) (n k : ℕ) (spawns : List Spawn)
    → times x (children_for Same n k spawns) + times x (children_for Sub n k spawns) + times x (children_for Super n k spawns) ≡ times x (all_children n k spawns)
times-children x n k [] = refl
times-children x n k (s ∷ ss) = go (times-children x n (k + 1) ss) s.place refl where
  go : times x (children_for Same n (k + 1) ss) + times x (children_for Sub n (k + 1) ss) + times x (children_for Super n (k + 1) ss) ≡ times x (all_children n (k + 1) ss)
      → (p : Place) → s.place ≡ p
      → times x (children_for Same n k (s ∷ ss)) + times x (children_for Sub n k (s ∷ ss)) + times x (children_for Super n k (s ∷ ss)) ≡ times x (all_children n k (s ∷ ss))
  go ih Same e = rw e (omega (arith, ih))
  go ih Sub e = rw e (omega (arith, ih))
  go ih Super e = rw e (omega (arith, ih))

pub children-fresh : (x : Name) (n k : ℕ) (spawns : List Spawn)
    → times x (all_children n k spawns) ≤ one ((n == x.creator) && nat_le k x.index)
children-fresh x n k [] = omega arith
children-fresh x n k (s ∷ ss) = go (children-fresh x n (k + 1) ss) (n == x.creator) where
  go : times x (all_children n (k + 1) ss) ≤ one ((n == x.creator) && nat_le (k + 1) x.index) → (b : Bool)
      → one ((n == x.creator) && (k == x.index)) + times x (all_children n (k + 1) ss) ≤ one ((n == x.creator) && nat_le k x.index)
  go ih b = grind (arith, nat_tests, common_steps)

pub times_in-super : (x : Name) (tasks : List PendingTask) (outer : List BagValue)
    → times_in x (with_super tasks outer) ≤ times x tasks + times_in x outer
times_in-super x tasks [] = omega arith
times_in-super x tasks (b ∷ bs) = omega (arith, times-append x b.tasks tasks)

pub times_in-sub : (x : Name) (depth floor owner : ℕ) (tasks : List PendingTask) (sub : Option Kind) (rest : List BagValue)
    → times_in x (sub_bags depth floor owner tasks sub ++ rest) ≤ times x tasks + times_in x rest
times_in-sub x depth floor owner tasks None rest = omega arith
times_in-sub x depth floor owner tasks (Some kind) rest = go (length tasks == 0) where
  go : (b : Bool)
      → times_in x ((if b then [] else record { depth = depth; kind = kind; floor = floor; owner = owner; tasks = tasks } ∷ []) ++ rest) ≤ times x tasks + times_in x rest
  go true = omega arith
  go false = omega arith

pub times_in-after : (x : Name) (bag : BagValue) (outer : List BagValue) (name : Name) (n ts : ℕ) (spawns : List Spawn) (sub : Option Kind)
    → times_in x (stack_after bag outer name n ts spawns sub)
    ≤ times_in x (bag ∷ outer) + times x (all_children n 0 spawns)
unfolding stack_after children
times_in-after x bag outer name n ts spawns sub = omega (
  arith,
  times_in-sub x (bag.depth + 1) ts n (children_for Sub n 0 spawns) sub (record bag { tasks = without_name name bag.tasks ++ children_for Same n 0 spawns } ∷ with_super (children_for Super n 0 spawns) outer),
  times-append x (without_name name bag.tasks) (children_for Same n 0 spawns),
  times-without_name x name bag.tasks,
  times_in-super x (children_for Super n 0 spawns) outer,
  times-children x n 0 spawns,
)

one-more : (c n i : ℕ) → one (nat_le c n) + one ((n + 1 == c) && nat_le 0 i) ≤ one (nat_le c (n + 1))
one-more c n i = grind (arith, nat_tests, common_steps)

pub AreNamed-after : (stack : List BagValue) (bag : BagValue) (outer : List BagValue) (name : Name) (n ts : ℕ) (spawns : List Spawn) (sub : Option Kind)
    → inner stack ≡ bag ∷ outer → AreNamed n stack → AreNamed (n + 1) (stack_after bag outer name (n + 1) ts spawns sub)
AreNamed-after stack bag outer name n ts spawns sub e h x =
    let top : times_in x stack ≡ times_in x (bag ∷ outer) = sym (times_in-inner x stack) ∙ ap (times_in x) e in
    omega (arith, times_in-after x bag outer name (n + 1) ts spawns sub, children-fresh x (n + 1) 0 spawns, h x, top, one-more x.creator n x.index)

pub image-fresh : (x : Name) (kind : Kind) (k : ℕ) (tasks : List ImageTask)
    → times x (map (image_task kind) (enumerate_from k tasks)) ≤ one ((0 == x.creator) && nat_le k x.index)
image-fresh x kind k [] = omega arith
image-fresh x kind k (t ∷ ts) = go (image-fresh x kind (k + 1) ts) where
  go : times x (map (image_task kind) (enumerate_from (k + 1) ts)) ≤ one ((0 == x.creator) && nat_le (k + 1) x.index)
      → one ((0 == x.creator) && (k == x.index)) + times x (map (image_task kind) (enumerate_from (k + 1) ts)) ≤ one ((0 == x.creator) && nat_le k x.index)
  go ih = grind (arith, nat_tests, common_steps)

none-before : (c i : ℕ) → one ((0 == c) && nat_le 0 i) ≤ one (nat_le c 0)
none-before c i = grind (arith, nat_tests, common_steps)

pub AreNamed-opening : (kind : Kind) (tasks : List ImageTask) (found : List PendingTask)
    → found ≡ map (image_task kind) (enumerate_from 0 tasks)
    → (name : Name) → times name found + 0 ≤ one (nat_le name.creator 0)
AreNamed-opening kind tasks found e x = rw e (omega (arith, image-fresh x kind 0 tasks, none-before x.creator x.index))

-- the first of the least stands there, is found by its name where names are distinct, and is least
pub record IsFirst (tasks : List PendingTask) (t : PendingTask) : Type 0 where
  pub stands : 1 ≤ times t.name tasks
  pub found : times t.name tasks ≤ 1 → find_named t.name tasks ≡ Some t
  pub least : is_least t.ts tasks ≡ true

is_named-own : (t : PendingTask) → is_named t.name t ≡ true
is_named-own t = grind (arith, nat_tests, common_steps)

pub is_least-below : (a b : ℕ) (ts : List PendingTask) → a ≤ b → is_least b ts ≡ true → is_least a ts ≡ true
is_least-below a b [] le h = refl
is_least-below a b (t ∷ ts) le h = go (is_least-below a b ts le) h where
  go : (is_least b ts ≡ true → is_least a ts ≡ true) → (nat_le b t.ts && is_least b ts) ≡ true
      → (nat_le a t.ts && is_least a ts) ≡ true
  go ih h = grind (arith, nat_tests, common_steps)

first-here : (h : PendingTask) (ts : List PendingTask) → is_least h.ts ts ≡ true → IsFirst (h ∷ ts) h
first-here h ts e = record {
  stands = rw (is_named-own h) (omega arith);
  found = λ once. rw (is_named-own h) refl;
  least = rw e (grind (arith, nat_tests, common_steps));
}

first-there : (h b : PendingTask) (ts : List PendingTask) → b.ts < h.ts → IsFirst ts b → IsFirst (h ∷ ts) b
first-there h b ts lt f = record {
  stands = omega (arith, f.stands);
  found = λ once. go (is_named b.name h) (f.found (omega (arith, once))) once;
  least = rw f.least (grind (arith, nat_tests, common_steps));
} where
  go : (c : Bool) → find_named b.name ts ≡ Some b → one c + times b.name ts ≤ 1
      → (if c then Some h else find_named b.name ts) ≡ Some b
  go true e once = absurd (omega (arith, once, f.stands))
  go false e once = e

pub first : (tasks : List PendingTask) → MatchOption (first_least tasks) (tasks ≡ []) (IsFirst tasks)
first [] = refl
first (h ∷ ts) = go (first_least ts) (first ts) where
  two : (b : PendingTask) → IsFirst ts b → (c : Bool) → nat_lt b.ts h.ts ≡ c
      → MatchOption (if c then Some b else Some h) (h ∷ ts ≡ []) (IsFirst (h ∷ ts))
  two b f true e = first-there h b ts (grind (arith, nat_tests, common_steps)) f
  two b f false e = first-here h ts (is_least-below h.ts b.ts ts (grind (arith, nat_tests, common_steps)) f.least)

  go : (o : Option PendingTask) → MatchOption o (ts ≡ []) (IsFirst ts)
      → MatchOption (earlier (Some h) o) (h ∷ ts ≡ []) (IsFirst (h ∷ ts))
  go None z = rw z (first-here h [] refl)
  go (Some b) f = two b f (nat_lt b.ts h.ts) refl

-- where there is no task, no task has a smaller timestamp
pub first-none : (ts : ℕ) (tasks : List PendingTask) → first_least tasks ≡ None → is_least ts tasks ≡ true
first-none ts tasks none =
    let is : tasks ≡ [] = subst (λ o. MatchOption o (tasks ≡ []) (IsFirst tasks)) none (first tasks) in
    ap (is_least ts) is

-- no task has a smaller timestamp than the first of the least, whose own one is pending
pub first-above : (ts : ℕ) (tasks : List PendingTask) (t : PendingTask) → first_least tasks ≡ Some t → ts ≤ t.ts
    → is_least ts tasks ≡ true
first-above ts tasks t found above =
    let is : IsFirst tasks t = subst (λ o. MatchOption o (tasks ≡ []) (IsFirst tasks)) found (first tasks) in
    is_least-below ts t.ts tasks above is.least

pub first-stands : (tasks : List PendingTask) (t : PendingTask) → first_least tasks ≡ Some t
    → Contains (map (λ x. x.ts) tasks) t.ts
first-stands [] t found = absurd (none-some t found)
first-stands (h ∷ ts) t found = go (first_least ts) found (first-stands ts) where
  here : h ≡ t → Contains (map (λ x. x.ts) (h ∷ ts)) t.ts
  here same = (0, omega arith, ap (λ x. x.ts) same)

  there : Contains (map (λ x. x.ts) ts) t.ts → Contains (map (λ x. x.ts) (h ∷ ts)) t.ts
  there (k, inside, is) = (suc k, omega (arith, inside), is)

  two : (b : PendingTask) (c : Bool) → (if c then Some b else Some h) ≡ Some t
      → (b ≡ t → Contains (map (λ x. x.ts) ts) t.ts)
      → Contains (map (λ x. x.ts) (h ∷ ts)) t.ts
  two b true is on = there (on (same_Some b t is))
  two b false is on = here (same_Some h t is)

  go : (o : Option PendingTask) → earlier (Some h) o ≡ Some t
      → ((u : PendingTask) → o ≡ Some u → Contains (map (λ x. x.ts) ts) u.ts)
      → Contains (map (λ x. x.ts) (h ∷ ts)) t.ts
  go None is on = here (same_Some h t is)
  go (Some b) is on =
      two b (nat_lt b.ts h.ts) is (λ same. subst (λ u. Contains (map (λ x. x.ts) ts) u.ts) same (on b refl))

abbrev IsOpen : List BagValue → Type 0
IsOpen [] = Unit {0}
IsOpen (bag ∷ outer) = bag.tasks ≢ []

inner-open : (stack : List BagValue) → IsOpen (inner stack)
inner-open [] = tt
inner-open (bag ∷ outer) = go (inner-open outer) (length bag.tasks == 0) refl where
  go : IsOpen (inner outer) → (b : Bool) → (length bag.tasks == 0) ≡ b → IsOpen (if b then inner outer else bag ∷ outer)
  go ih true e = ih
  go ih false e = λ z. let f : (length bag.tasks == 0) ≡ true = rw z refl in grind (arith, common_steps)

pub next-may : (count : ℕ) (full : List BagValue) → AreNamed count full → (stack : List BagValue) → inner full ≡ stack
    → MatchOption (next_in stack) (stack ≡ []) (IsNext full)
next-may count full named [] e = refl
next-may count full named (bag ∷ outer) e = go (first_least bag.tasks) (first bag.tasks) where
  at-most : (x : Name) → one (nat_le x.creator count) ≤ 1
  at-most x = grind (arith, nat_tests, common_steps)

  go : (o : Option PendingTask) → MatchOption o (bag.tasks ≡ []) (IsFirst bag.tasks)
      → MatchOption (name_of o) (bag ∷ outer ≡ []) (IsNext full)
  go None z = absurd (subst IsOpen e (inner-open full) z)
  go (Some t) f =
      let top : times_in t.name full ≡ times t.name bag.tasks + times_in t.name outer = sym (times_in-inner t.name full) ∙ ap (times_in t.name) e in
      record {
        bag = bag;
        outer = outer;
        task = t;
        may = record { top = e; found = f.found (omega (arith, named t.name, top, at-most t.name)); least = f.least };
      }

-- the innermost bag holds each name at most once
pub once-in-first : (count : ℕ) (name : Name) (full : List BagValue) → AreNamed count full
    → (bag : BagValue) (outer : List BagValue) → inner full ≡ bag ∷ outer → times name bag.tasks ≤ 1
once-in-first count name full named bag outer e =
    let top : times_in name full ≡ times name bag.tasks + times_in name outer = sym (times_in-inner name full) ∙ ap (times_in name) e in
    let most : one (nat_le name.creator count) ≤ 1 = grind (arith, nat_tests, common_steps) in
    omega (arith, named name, top, most)

times-there : (tasks : List PendingTask) (k : ℕ) (d : PendingTask) → k < length tasks
    → 1 ≤ times (get_or tasks k d).name tasks
times-there [] k d inside = absurd (omega arith)
times-there (t ∷ ts) zero d inside = rw (is_named-own t) (omega arith)
times-there (t ∷ ts) (suc k) d inside = omega (arith, times-there ts k d (omega arith))

-- no pending task's creator is still to commit
pub all-older : (count : ℕ) (stack : List BagValue) → AreNamed count stack → AreAllOlder (count + 1) stack
all-older count [] named = tt
all-older count (bag ∷ outer) named = (
  (λ k d inside. older (get_or bag.tasks k d).name (times-there bag.tasks k d inside)),
  all-older count outer (λ name. omega (arith, named name)),
)
  where
    older : (name : Name) → 1 ≤ times name bag.tasks → name.creator < count + 1
    older name there =
        let some : 1 ≤ one (nat_le name.creator count) = omega (arith, named name) in
        grind (arith, nat_tests, common_steps)
