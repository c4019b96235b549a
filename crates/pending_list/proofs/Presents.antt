-- The tasks that are there, as slots come, go and become vacant.
use Rattle.std.proofs.Common.{◌≡◌, ◌≢◌, refl, sym, ap, subst, ◌∙◌, ◌==◌, ◌||◌, ℕ, zero, suc, ◌+◌, ◌-◌, ◌<◌, Bool, true}
use Rattle.std.proofs.Common.{false, List, [], ◌∷◌, ◌++◌, length, set, take, drop, Some, None, Option, is_some}
use Rattle.std.proofs.Common.{if◌then◌else◌, arith}
use Rattle.std.specs.List.{All, list_any}
use Rattle.std.proofs.lemmas.Bool.Decides.{nat_tests}
use Rattle.std.proofs.lemmas.List.{take_more, take-append-drop, append-nil, length-append, length_push, length-take-le}
use Rattle.std.proofs.lemmas.List.{get_or-take}
use Rattle.std.proofs.lemmas.List.Elements.{All-nil, All-cons, All-head, All-tail}
use Rattle.task_desc.specs.declared.desc.Name.{Name}
use Rattle.pending_list.specs.declared.task.PendingTask.{PendingTask}
use Rattle.pending_list.specs.declared.slot.Slot.{Slot}
use Rattle.pending_list.specs.Pending.{is_named, name_before, find_named, without_name, AllBefore}
use Rattle.pending_list.specs.Slots.{present, slot_at, vacant, NamesRise, IsPlaceOfName, IsNowhere, EndsHere}

not_suc : (k : ℕ) → zero ≢ suc k
not_suc k same = let no_way : ⊥ = omega arith in no_way

not_zero : (k : ℕ) → suc k ≢ zero
not_zero k same = let no_way : ⊥ = omega arith in no_way

pub present-append : (xs ys : List Slot) → present (xs ++ ys) ≡ present xs ++ present ys
present-append [] ys = refl
present-append (x ∷ xs) ys = go x.here (present-append xs ys) where
  go : (b : Bool) → present (xs ++ ys) ≡ present xs ++ present ys
      → (if b then x.task ∷ present (xs ++ ys) else present (xs ++ ys))
      ≡ (if b then x.task ∷ present xs else present xs) ++ present ys
  go true is = ap (λ ts. x.task ∷ ts) is
  go false is = is

-- what holds of the tasks that are there
pub All-present : (P : PendingTask → Type 0) (xs : List Slot)
    → ((k : ℕ) → k < length xs → (slot_at xs k).here ≡ true → P (slot_at xs k).task) → All P (present xs)
All-present P [] each = All-nil P
All-present P (x ∷ xs) each =
    go x.here refl (All-present P xs (λ k inside here. each (suc k) (omega arith) here)) where
      go : (b : Bool) → x.here ≡ b → All P (present xs) → All P (if b then x.task ∷ present xs else present xs)
      go true is all = All-cons P x.task (present xs) (each 0 (omega arith) is) all
      go false is all = all

pub present-All : (P : PendingTask → Type 0) (xs : List Slot) → All P (present xs)
    → (k : ℕ) → k < length xs → (slot_at xs k).here ≡ true → P (slot_at xs k).task
present-All P [] all k inside here = absurd (omega arith)
present-All P (x ∷ xs) all zero inside here = go x.here here all where
  go : (b : Bool) → b ≡ true → All P (if b then x.task ∷ present xs else present xs) → P x.task
  go true is all = All-head P x.task (present xs) all
  go false is all = cc
present-All P (x ∷ xs) all (suc k) inside here =
    go x.here all (λ rest. present-All P xs rest k (omega arith) here) where
      go : (b : Bool) → All P (if b then x.task ∷ present xs else present xs)
          → (All P (present xs) → P (slot_at xs k).task) → P (slot_at xs k).task
      go true all on = on (All-tail P x.task (present xs) all)
      go false all on = on all

-- the task of a name is found
pub find_there : (name : Name) (xs : List Slot) (at : ℕ) → IsPlaceOfName name xs at
    → find_named name (present xs) ≡ Some (slot_at xs at).task
find_there name [] at is = absurd (let within = is.within in omega arith)
find_there name (x ∷ xs) zero is = rw (is.here, is.named) refl
find_there name (x ∷ xs) (suc at) is = go x.here (is.others 0 (omega arith) (not_suc at))
    (find_there name xs at (record {
      within = (let within = is.within in omega arith);
      here = is.here;
      named = is.named;
      others = λ k inside other. is.others (suc k) (omega arith) (λ e. other (omega arith));
    })) where
      go : (b : Bool) → is_named name x.task ≡ false → find_named name (present xs) ≡ Some (slot_at xs at).task
          → find_named name (if b then x.task ∷ present xs else present xs) ≡ Some (slot_at xs at).task
      go true other same = rw other same
      go false other same = same

pub find_none : (name : Name) (xs : List Slot) → IsNowhere name xs → find_named name (present xs) ≡ None
find_none name [] is = refl
find_none name (x ∷ xs) is = go x.here refl (find_none name xs (λ k inside here. is (suc k) (omega arith) here)) where
  go : (b : Bool) → x.here ≡ b → find_named name (present xs) ≡ None
      → find_named name (if b then x.task ∷ present xs else present xs) ≡ None
  go true here none = let other = is 0 (omega arith) here in rw other none
  go false here none = none

-- whether a task of a name is there is whether it is found
pub any_found : (name : Name) (tasks : List PendingTask) (found : Option PendingTask) → found ≡ find_named name tasks
    → is_some found ≡ list_any (is_named name) tasks
any_found name tasks found is = ap is_some is ∙ go tasks where
  go : (ts : List PendingTask) → is_some (find_named name ts) ≡ list_any (is_named name) ts
  go [] = refl
  go (t ∷ ts) = one (is_named name t) (go ts) where
    one : (b : Bool) → is_some (find_named name ts) ≡ list_any (is_named name) ts
        → is_some (if b then Some t else find_named name ts) ≡ (b || list_any (is_named name) ts)
    one true is = refl
    one false is = is

without_nowhere : (name : Name) (xs : List Slot) → IsNowhere name xs → without_name name (present xs) ≡ present xs
without_nowhere name [] is = refl
without_nowhere name (x ∷ xs) is =
    go x.here refl (without_nowhere name xs (λ k inside here. is (suc k) (omega arith) here)) where
      go : (b : Bool) → x.here ≡ b → without_name name (present xs) ≡ present xs
          → without_name name (if b then x.task ∷ present xs else present xs) ≡ (if b then x.task ∷ present xs else present xs)
      go true here same = let other = is 0 (omega arith) here in rw other (ap (λ ts. x.task ∷ ts) same)
      go false here same = same

-- where no task of a name is there none leaves
pub leaves_none : (name : Name) (xs : List Slot) → IsNowhere name xs → present xs ≡ without_name name (present xs)
leaves_none name xs is = sym (without_nowhere name xs is)

-- the slot of the name becomes vacant
pub leaves_there : (name : Name) (xs : List Slot) (at : ℕ) (left : Slot) → IsPlaceOfName name xs at → left.here ≡ false
    → present (set xs at left) ≡ without_name name (present xs)
leaves_there name [] at left is gone = refl
leaves_there name (x ∷ xs) zero left is gone =
    let others : IsNowhere name xs = λ k inside here. is.others (suc k) (omega arith) (not_zero k) in
    rw (gone, is.here, is.named) (leaves_none name xs others)
leaves_there name (x ∷ xs) (suc at) left is gone = go x.here (is.others 0 (omega arith) (not_suc at))
    (leaves_there name xs at left (record {
      within = (let within = is.within in omega arith);
      here = is.here;
      named = is.named;
      others = λ k inside other. is.others (suc k) (omega arith) (λ e. other (omega arith));
    }) gone) where
      go : (b : Bool) → is_named name x.task ≡ false → present (set xs at left) ≡ without_name name (present xs)
          → (if b then x.task ∷ present (set xs at left) else present (set xs at left))
          ≡ without_name name (if b then x.task ∷ present xs else present xs)
      go true other same = rw other (ap (λ ts. x.task ∷ ts) same)
      go false other same = same

-- where all slots are vacant no task is there
pub present-vacant : (xs : List Slot) → ((k : ℕ) → (slot_at xs k).here ≡ false) → present xs ≡ []
present-vacant [] gone = refl
present-vacant (x ∷ xs) gone = let first : x.here ≡ false = gone 0 in rw first (present-vacant xs (λ k. gone (suc k)))

-- where a task is, some are
some_present : (xs : List Slot) (k : ℕ) → k < length xs → (slot_at xs k).here ≡ true → 0 < length (present xs)
some_present [] k inside here = absurd (omega arith)
some_present (x ∷ xs) zero inside here = rw here (omega arith)
some_present (x ∷ xs) (suc k) inside here = go x.here (some_present xs k (omega arith) here) where
  go : (b : Bool) → 0 < length (present xs) → 0 < length (if b then x.task ∷ present xs else present xs)
  go true some = omega arith
  go false some = some

-- there are no slots where no task is
pub none_present : (xs : List Slot) → EndsHere xs → (length xs == 0) ≡ (length (present xs) == 0)
none_present [] ends = refl
none_present (x ∷ xs) ends =
    let some = some_present (x ∷ xs) (length (x ∷ xs) - 1) (omega arith) (ends (omega arith)) in
    let no_slots : (length (x ∷ xs) == 0) ≡ false = grind (arith, nat_tests) in
    let no_tasks : (length (present (x ∷ xs)) == 0) ≡ false = grind (arith, nat_tests) in
    no_slots ∙ sym no_tasks

-- one slot more
taken_next : (xs : List Slot) (i : ℕ) → i < length xs
    → present (take (i + 1) xs) ≡ present (take i xs) ++ present (slot_at xs i ∷ [])
taken_next xs i inside = ap present (take_more xs i vacant inside) ∙ present-append (take i xs) (slot_at xs i ∷ [])

pub taken_here : (xs : List Slot) (i : ℕ) (s : Slot) → i < length xs → s ≡ slot_at xs i → s.here ≡ true
    → present (take (i + 1) xs) ≡ present (take i xs) ++ s.task ∷ []
taken_here xs i s inside is here = taken_next xs i inside
    ∙ ap (λ t. present (take i xs) ++ present (t ∷ [])) (sym is) ∙ rw here refl

pub taken_gone : (xs : List Slot) (i : ℕ) (s : Slot) → i < length xs → s ≡ slot_at xs i → s.here ≡ false
    → present (take (i + 1) xs) ≡ present (take i xs)
taken_gone xs i s inside is gone =
    taken_next xs i inside ∙ ap (λ t. present (take i xs) ++ present (t ∷ [])) (sym is)
    ∙ rw gone (append-nil (present (take i xs)))

-- fewer tasks are there before a slot whose task is
pub taken_fewer : (xs : List Slot) (i : ℕ) (s : Slot) → i < length xs → s ≡ slot_at xs i → s.here ≡ true
    → length (present (take i xs)) < length (present xs)
taken_fewer xs i s inside is here =
    let parts : length (present xs) ≡ length (present (take (i + 1) xs)) + length (present (drop (i + 1) xs)) =
    ap (λ ys. length (present ys)) (sym (take-append-drop (i + 1) xs))
    ∙ ap length (present-append (take (i + 1) xs) (drop (i + 1) xs))
    ∙ length-append (present (take (i + 1) xs)) (present (drop (i + 1) xs)) in
    let more = ap length (taken_here xs i s inside is here) ∙ length_push (present (take i xs)) s.task in
    omega arith

-- names that rise: those of the tasks before a slot come before its own
pub taken_before : (xs : List Slot) (i : ℕ) (s : Slot) → NamesRise xs → i < length xs → s ≡ slot_at xs i
    → AllBefore s.task.name (present (take i xs))
taken_before xs i s rises inside is =
    subst (λ t. AllBefore t.task.name (present (take i xs))) (sym is)
    (All-present (λ t. name_before t.name (slot_at xs i).task.name ≡ true) (take i xs)
    (λ k front here.
    (let short = length-take-le i xs (omega arith) in
    let low : k < i = omega arith in
    ap (λ t. name_before t.task.name (slot_at xs i).task.name) (get_or-take i xs k vacant low) ∙ rises k i low inside)))
