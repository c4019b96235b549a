-- How often a name is pending after a turn, and after a run.
use Rattle.std.proofs.Common.{◌≡◌, refl, sym, ap, ◌∙◌, subst, ◌≤◌, ◌+◌, ◌==◌, ◌&&◌, not, nat_le, nat_lt, ℕ, suc, Bool}
use Rattle.std.proofs.Common.{true, false, List, [], ◌∷◌, ◌++◌, length, map, Option, Some, None, if◌then◌else◌, arith}
use Rattle.std.specs.List.{enumerate_from}
use Rattle.std.proofs.lemmas.Grind.{common_steps}
use Rattle.std.proofs.lemmas.Bool.Decides.{nat_tests}
use Rattle.std.proofs.lemmas.List.{nil_from_length}
use Rattle.guest_image.specs.ImageValue.{ImageValue}
use Rattle.guest_image.specs.declared.image.Kind.{Kind}
use Rattle.task_desc.specs.declared.desc.Name.{Name}
use Rattle.task_desc.specs.declared.desc.Spawn.{Spawn}
use Rattle.task_desc.specs.declared.desc.Place.{Place}
use Rattle.task_desc.specs.declared.desc.Place.TheVariants.{Same, Sub, Super}
use Rattle.pending_list.specs.declared.task.PendingTask.{PendingTask}
use Rattle.run_journal.specs.declared.journal.Entry.{Entry}
use Rattle.serial_machine.specs.BagValue.{BagValue}
use Rattle.serial_machine.specs.State.{SerialState}
use Rattle.serial_machine.specs.Names.{one, times, times_in, AreNamed}
use Rattle.serial_machine.specs.Turn.{is_named, without_name, stack_after, children, sub_bags, with_super, kind_outside}
use Rattle.serial_machine.specs.Run.{Runs, IsRun, opening}
use Rattle.serial_machine.proofs.Proved.{AreNamed-after, AreNamed-opening, all_children, children_for, once-in-first}
use Rattle.serial_machine.proofs.Proved.{times-append, times-children, times_in-inner, without_name-none}
use Rattle.run_law.specs.Laws.{is_same, turns_of}
use Rattle.run_law.proofs.Distinct.{one-same}
use Rattle.run_law.proofs.Placed.{HasDomain, HaveDomains, done-placed}
use Rattle.run_law.proofs.Turned.{Turned, turn-did}

abbrev pub name_at : ℕ → ℕ → Name
name_at n k = record { creator = n; index = k }

count-step : (n c k i size rest : ℕ) → rest ≡ one ((n == c) && (nat_le (k + 1) i && nat_lt i (k + 1 + size)))
    → one ((n == c) && (k == i)) + rest ≡ one ((n == c) && (nat_le k i && nat_lt i (k + suc size)))
count-step n c k i size rest h = grind (arith, nat_tests, common_steps)

count-none : (n c k i : ℕ) → 0 ≡ one ((n == c) && (nat_le k i && nat_lt i (k + 0)))
count-none n c k i = grind (arith, nat_tests, common_steps)

-- tasks that are named by their places from k on: a name of theirs stands there once
pub times-numbered : {A : Type 0} (n : ℕ) (f : ℕ × A → PendingTask) → ((k : ℕ) (a : A) → (f (k, a)).name ≡ name_at n k)
    → (x : Name) (k : ℕ) (items : List A)
    → times x (map f (enumerate_from k items)) ≡ one ((n == x.creator) && (nat_le k x.index && nat_lt x.index (k + length items)))
times-numbered n f named x k [] = count-none n x.creator k x.index
times-numbered n f named x k (a ∷ items) =
    ap (λ m. one (is_same m x) + times x (map f (enumerate_from (k + 1) items))) (named k a)
    ∙ count-step n x.creator k x.index (length items) _ (times-numbered n f named x (k + 1) items)

-- no task but that of the name is taken away
times-left : (x name : Name) (tasks : List PendingTask) → times name tasks ≤ 1
    → times x tasks ≤ one (is_same name x) + times x (without_name name tasks)
times-left x name [] once = omega arith
times-left x name (t ∷ ts) once = go (is_named name t) refl once (times-left x name ts) where
  go : (b : Bool) → is_named name t ≡ b → one b + times name ts ≤ 1
      → (times name ts ≤ 1 → times x ts ≤ one (is_same name x) + times x (without_name name ts))
      → one (is_named x t) + times x ts ≤ one (is_same name x) + times x (if not b then t ∷ without_name name ts else without_name name ts)
  go true e once ih = rw (without_name-none name ts (omega (arith, once))) (omega (arith, one-same x name t.name e))
  go false e once ih = omega (arith, ih (omega (arith, once)))

-- where there is no superdomain, or no subdomain, no child is for it
no-super : (x : Name) (n k : ℕ) (sub : Option Kind) (spawns : List Spawn) → HaveDomains None sub spawns
    → times x (children_for Super n k spawns) ≡ 0
no-super x n k sub [] h = refl
no-super x n k sub (s ∷ ss) h = go s.place refl h.0 (no-super x n (k + 1) sub ss h.1) where
  go : (p : Place) → s.place ≡ p → HasDomain None sub p → times x (children_for Super n (k + 1) ss) ≡ 0
      → times x (children_for Super n k (s ∷ ss)) ≡ 0
  go Same e here ih = rw e ih
  go Sub e here ih = rw e ih
  go Super e here ih = let z : ⊥ = cc in absurd z

no-sub : (x : Name) (n k : ℕ) (outer : Option Kind) (spawns : List Spawn) → HaveDomains outer None spawns
    → times x (children_for Sub n k spawns) ≡ 0
no-sub x n k outer [] h = refl
no-sub x n k outer (s ∷ ss) h = go s.place refl h.0 (no-sub x n (k + 1) outer ss h.1) where
  go : (p : Place) → s.place ≡ p → HasDomain outer None p → times x (children_for Sub n (k + 1) ss) ≡ 0
      → times x (children_for Sub n k (s ∷ ss)) ≡ 0
  go Same e here ih = rw e ih
  go Sub e here ih = let z : ⊥ = cc in absurd z
  go Super e here ih = rw e ih

super-all : (x : Name) (n : ℕ) (sub : Option Kind) (spawns : List Spawn) (outer : List BagValue)
    → HaveDomains (kind_outside outer) sub spawns
    → times x (children_for Super n 0 spawns) + times_in x outer
    ≤ times_in x (with_super (children_for Super n 0 spawns) outer)
super-all x n sub spawns [] h = omega (arith, no-super x n 0 sub spawns h)
super-all x n sub spawns (b ∷ bs) h = omega (arith, times-append x b.tasks (children_for Super n 0 spawns))

sub-all : (x : Name) (depth floor n : ℕ) (outer sub : Option Kind) (spawns : List Spawn) (rest : List BagValue)
    → HaveDomains outer sub spawns
    → times x (children_for Sub n 0 spawns) + times_in x rest ≤ times_in x (sub_bags depth floor n (children_for Sub n 0 spawns) sub ++ rest)
sub-all x depth floor n outer None spawns rest h = omega (arith, no-sub x n 0 outer spawns h)
sub-all x depth floor n outer (Some kind) spawns rest h =
    go (children_for Sub n 0 spawns) (length (children_for Sub n 0 spawns) == 0) refl where
      go : (tasks : List PendingTask) (b : Bool) → (length tasks == 0) ≡ b
          → times x tasks + times_in x rest ≤ times_in x ((if b then [] else record { depth = depth; kind = kind; floor = floor; owner = n; tasks = tasks } ∷ []) ++ rest)
      go tasks true e = let z : tasks ≡ [] = grind (arith, nat_tests, common_steps, nil_from_length) in rw z (omega arith)
      go tasks false e = omega arith

after-left : (x : Name) (bag : BagValue) (outer : List BagValue) (name : Name) (n ts : ℕ) (spawns : List Spawn) (sub : Option Kind)
    → times name bag.tasks ≤ 1 → HaveDomains (kind_outside outer) sub spawns
    → times_in x (bag ∷ outer) + times x (all_children n 0 spawns) ≤ one (is_same name x) + times_in x (stack_after bag outer name n ts spawns sub)
unfolding stack_after children
after-left x bag outer name n ts spawns sub once placed = omega (
  arith,
  sub-all x (bag.depth + 1) ts n (kind_outside outer) sub spawns (record bag { tasks = without_name name bag.tasks ++ children_for Same n 0 spawns } ∷ with_super (children_for Super n 0 spawns) outer) placed,
  times-append x (without_name name bag.tasks) (children_for Same n 0 spawns),
  times-left x name bag.tasks once,
  super-all x n sub spawns outer placed,
  times-children x n 0 spawns,
)

-- a turn takes away no name but the one that took it, and loses no child
pub turn-at-least : (x : Name) (image : ImageValue) (budget : ℕ) (s mid : SerialState) (e : Entry)
    → AreNamed s.count s.stack → (d : Turned image budget s mid e.name e)
    → times_in x s.stack + times x (all_children (s.count + 1) 0 d.done.spawns)
    ≤ one (is_same e.name x) + times_in x mid.stack
turn-at-least x image budget s mid e named d =
    let top : times_in x s.stack ≡ times_in x (d.bag ∷ d.outer) = sym (times_in-inner x s.stack) ∙ ap (times_in x) d.may.top in
    let once = once-in-first s.count e.name s.stack named d.bag d.outer d.may.top in
    let placed = done-placed image budget s d.bag d.outer d.task d.done d.run in
    let le = after-left x d.bag d.outer e.name (s.count + 1) d.task.ts d.done.spawns d.done.sub once placed in
    let stack = ap (λ m. times_in x m.stack) d.state in
    omega (arith, top, le, stack)

pub AreNamed-turn : (image : ImageValue) (budget : ℕ) (s mid : SerialState) (e : Entry) → AreNamed s.count s.stack
    → Turned image budget s mid e.name e → AreNamed mid.count mid.stack
AreNamed-turn image budget s mid e named d =
    subst (λ m. AreNamed m.count m.stack) (sym d.state) (AreNamed-after s.stack d.bag d.outer e.name s.count d.task.ts d.done.spawns d.done.sub d.may.top named)

AreNamed-runs : (image : ImageValue) (budget : ℕ) (s : SerialState) (es : List Entry) (after : SerialState)
    → AreNamed s.count s.stack → Runs image budget s es after → AreNamed after.count after.stack
AreNamed-runs image budget s [] after named run = subst (λ m. AreNamed m.count m.stack) run named
AreNamed-runs image budget s (e ∷ es) after named (mid, t, rest) =
    AreNamed-runs image budget mid es after (AreNamed-turn image budget s mid e named (turn-did image budget s mid e.name e t)) rest

pub AreNamed-run : (image : ImageValue) (budget : ℕ) (es : List Entry) (after : SerialState)
    → IsRun image budget es after → AreNamed after.count after.stack
AreNamed-run image budget es after run =
    AreNamed-runs image budget (opening image) es after (AreNamed-opening image.kind image.tasks _ refl) run

-- a name that is pending takes a turn or stays pending
pub times_in-runs : (x : Name) (image : ImageValue) (budget : ℕ) (s : SerialState) (es : List Entry) (after : SerialState)
    → AreNamed s.count s.stack → Runs image budget s es after
    → times_in x s.stack ≤ turns_of x es + times_in x after.stack
times_in-runs x image budget s [] after named run = omega (arith, ap (λ m. times_in x m.stack) run)
times_in-runs x image budget s (e ∷ es) after named (mid, t, rest) =
    let d = turn-did image budget s mid e.name e t in
    let step = turn-at-least x image budget s mid e named d in
    let ih = times_in-runs x image budget mid es after (AreNamed-turn image budget s mid e named d) rest in
    omega (arith, step, ih)

-- the count of turns
count-runs : (image : ImageValue) (budget : ℕ) (s : SerialState) (es : List Entry) (after : SerialState)
    → Runs image budget s es after → after.count ≡ s.count + length es
count-runs image budget s [] after run = omega (arith, ap (λ m. m.count) run)
count-runs image budget s (e ∷ es) after (mid, t, rest) =
    let d = turn-did image budget s mid e.name e t in
    omega (arith, ap (λ m. m.count) d.state, count-runs image budget mid es after rest)

pub count-run : (image : ImageValue) (budget : ℕ) (es : List Entry) (after : SerialState) → IsRun image budget es after
    → after.count ≡ length es
count-run image budget es after run = omega (arith, count-runs image budget (opening image) es after run)
