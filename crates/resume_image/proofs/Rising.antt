-- The tasks of each bag stand in the order of their names, were made by the image or by turns that were taken, and
-- have timestamps that their domain takes for what they are.
use Rattle.std.proofs.Common.{◌≡◌, refl, subst, ℕ, ◌+◌, ◌≤◌, ◌==◌, Bool, true, false, not, List, [], ◌∷◌, ◌++◌, map}
use Rattle.std.proofs.Common.{Option, Some, if◌then◌else◌, arith}
use Rattle.std.specs.List.{AllByRecursion, enumerate_from}
use Rattle.std.specs.Prelude.{filter}
use Rattle.std.proofs.lemmas.Bool.Decides.{nat_tests}
use Rattle.std.proofs.lemmas.Grind.{common_steps}
use Rattle.guest_image.specs.declared.image.ImageTask.{ImageTask}
use Rattle.guest_image.specs.declared.image.Kind.{Kind}
use Rattle.task_desc.specs.declared.desc.Name.{Name}
use Rattle.task_desc.specs.declared.desc.Spawn.{Spawn}
use Rattle.task_desc.specs.declared.desc.Place.{Place}
use Rattle.task_desc.specs.declared.desc.Place.TheVariants.{Same, Sub, Super}
use Rattle.pending_list.specs.declared.task.PendingTask.{PendingTask}
use Rattle.pending_list.specs.Pending.{name_before}
use Rattle.conflict_book.specs.serial_machine.BagValue.{BagValue}
use Rattle.conflict_book.specs.serial_machine.Run.{image_task}
use Rattle.conflict_book.specs.serial_machine.Turn.{child, children, is_for, is_named, kind_outside, place_number}
use Rattle.conflict_book.specs.serial_machine.Turn.{stack_after}
use Rattle.conflict_book.specs.serial_machine.Turn.{without_name}
use Rattle.resume_image.proofs.Bags.{AreGood, good_after}
use Rattle.resume_image.proofs.Settled.{IsSettled, Settle, SettlesIn, settled_ts}

-- the task stands before each of these; and in a list that rises each does before those behind it
abbrev pub AllBehind : PendingTask → List PendingTask → Type 0
AllBehind t ts = AllByRecursion (λ (u : PendingTask). name_before t.name u.name ≡ true) ts

abbrev pub Rise : List PendingTask → Type 0
Rise [] = Unit {0}
Rise (t ∷ ts) = AllBehind t ts × Rise ts

-- made by one of so many turns, or by the image, and a domain of this kind takes its timestamp for what it is
abbrev pub IsOld : ℕ → Kind → PendingTask → Type 0
IsOld count kind t = (t.name.creator ≤ count) × IsSettled kind t.ts

pub record AreOld (count : ℕ) (kind : Kind) (tasks : List PendingTask) : Type 0 where
  pub rise : Rise tasks
  pub each : AllByRecursion (IsOld count kind) tasks

-- what holds of each task holds of those that stay
kept : (P : PendingTask → Type 0) (name : Name) (tasks : List PendingTask) → AllByRecursion P tasks
    → AllByRecursion P (without_name name tasks)
kept P name [] each = tt
kept P name (t ∷ ts) each = go (is_named name t) (kept P name ts each.1)
  where
    go : (b : Bool) → AllByRecursion P (without_name name ts)
        → AllByRecursion P (if not b then t ∷ without_name name ts else without_name name ts)
    go true rest = rest
    go false rest = (each.0, rest)

both : (P : PendingTask → Type 0) (tasks more : List PendingTask) → AllByRecursion P tasks → AllByRecursion P more
    → AllByRecursion P (tasks ++ more)
both P [] more first second = second
both P (t ∷ ts) more first second = (first.0, both P ts more first.1 second)

weaker : (P Q : PendingTask → Type 0) (tasks : List PendingTask) → ((t : PendingTask) → P t → Q t)
    → AllByRecursion P tasks → AllByRecursion Q tasks
weaker P Q [] by each = tt
weaker P Q (t ∷ ts) by each = (by t each.0, weaker P Q ts by each.1)

rise_without : (name : Name) (tasks : List PendingTask) → Rise tasks → Rise (without_name name tasks)
rise_without name [] rise = tt
rise_without name (t ∷ ts) rise = go (is_named name t) (rise_without name ts rise.1)
  where
    go : (b : Bool) → Rise (without_name name ts)
        → Rise (if not b then t ∷ without_name name ts else without_name name ts)
    go true rest = rest
    go false rest = (kept (λ (u : PendingTask). name_before t.name u.name ≡ true) name ts rise.0, rest)

-- what a turn made stands behind what turns before it made
older : (count : ℕ) (kind : Kind) (t : PendingTask) (more : List PendingTask) → IsOld count kind t
    → AllByRecursion (λ (u : PendingTask). u.name.creator ≡ count + 1) more → AllBehind t more
older count kind t [] old new = tt
older count kind t (u ∷ us) old new =
    let first : t.name.creator ≤ count = old.0 in
    let second : u.name.creator ≡ count + 1 = new.0 in
    (grind (arith, nat_tests, common_steps), older count kind t us old new.1)

rise_more : (count : ℕ) (kind : Kind) (tasks more : List PendingTask) → Rise tasks
    → AllByRecursion (IsOld count kind) tasks → Rise more
    → AllByRecursion (λ (u : PendingTask). u.name.creator ≡ count + 1) more → Rise (tasks ++ more)
rise_more count kind [] more rise old also new = also
rise_more count kind (t ∷ ts) more rise old also new = (
  both (λ (u : PendingTask). name_before t.name u.name ≡ true) ts more rise.0 (older count kind t more old.0 new),
  rise_more count kind ts more rise.1 old.1 also new,
)

-- numbered tasks, from a place on
pub record AreNumbered (n k : ℕ) (tasks : List PendingTask) : Type 0 where
  pub rise : Rise tasks
  pub each : AllByRecursion (λ (t : PendingTask). (t.name.creator ≡ n) × (k ≤ t.name.index)) tasks

behind : (n k : ℕ) (t : PendingTask) (ts : List PendingTask) → t.name.creator ≡ n → t.name.index ≡ k
    → AllByRecursion (λ (u : PendingTask). (u.name.creator ≡ n) × (k + 1 ≤ u.name.index)) ts → AllBehind t ts
behind n k t [] creator index each = tt
behind n k t (u ∷ us) creator index each =
    let by : u.name.creator ≡ n = each.0.0 in
    let at : k + 1 ≤ u.name.index = each.0.1 in
    (grind (arith, nat_tests, common_steps), behind n k t us creator index each.1)

one_numbered : (n k : ℕ) (t : PendingTask) (ts : List PendingTask) → t.name.creator ≡ n → t.name.index ≡ k
    → AreNumbered n (k + 1) ts → AreNumbered n k (t ∷ ts)
one_numbered n k t ts creator index rest = record {
  rise = (behind n k t ts creator index rest.each, rest.rise);
  each = (
    (creator, omega (arith, index)),
    weaker (λ (u : PendingTask). (u.name.creator ≡ n) × (k + 1 ≤ u.name.index)) (λ (u : PendingTask). (u.name.creator ≡ n) × (k ≤ u.name.index)) ts
        (λ u holds. (holds.0, omega (arith, holds.1))) rest.each,
  );
}

later_numbered : (n k : ℕ) (ts : List PendingTask) → AreNumbered n (k + 1) ts → AreNumbered n k ts
later_numbered n k ts rest = record {
  rise = rest.rise;
  each =
      weaker (λ (u : PendingTask). (u.name.creator ≡ n) × (k + 1 ≤ u.name.index)) (λ (u : PendingTask). (u.name.creator ≡ n) × (k ≤ u.name.index)) ts
      (λ u holds. (holds.0, omega (arith, holds.1))) rest.each;
}

children_numbered : (place : Place) (n k : ℕ) (spawns : List Spawn)
    → AreNumbered n k (map (child n) (filter (is_for place) (enumerate_from k spawns)))
children_numbered place n k [] = record { rise = tt; each = tt }
children_numbered place n k (s ∷ ss) = go (is_for place (k, s)) (children_numbered place n (k + 1) ss)
  where
    go : (b : Bool) → AreNumbered n (k + 1) (map (child n) (filter (is_for place) (enumerate_from (k + 1) ss)))
        → AreNumbered n k (map (child n) (if b then (k, s) ∷ filter (is_for place) (enumerate_from (k + 1) ss) else filter (is_for place) (enumerate_from (k + 1) ss)))
    go true rest = one_numbered n k (child n (k, s)) _ refl refl rest
    go false rest = later_numbered n k _ rest

pub image_numbered : (kind : Kind) (k : ℕ) (tasks : List ImageTask)
    → AreNumbered 0 k (map (image_task kind) (enumerate_from k tasks))
image_numbered kind k [] = record { rise = tt; each = tt }
image_numbered kind k (t ∷ ts) = one_numbered 0 k (image_task kind (k, t)) _ refl refl (image_numbered kind (k + 1) ts)

pub image_settled : (kind : Kind) (k : ℕ) (tasks : List ImageTask)
    → AllByRecursion (λ (t : PendingTask). IsSettled kind t.ts) (map (image_task kind) (enumerate_from k tasks))
image_settled kind k [] = tt
image_settled kind k (t ∷ ts) = (settled_ts kind t.ts, image_settled kind (k + 1) ts)

-- the children for a domain of this kind are settled in it
module _ (place : Place) (kind own : Kind) (outer sub : Option Kind) (fits : (ts : ℕ) → SettlesIn own outer sub place ts → IsSettled kind ts) where
  same_place : (p : Place) → (place_number p == place_number place) ≡ true → (ts : ℕ) → SettlesIn own outer sub p ts
      → SettlesIn own outer sub place ts
  same_place p is ts here = go p place is here
    where
      go : (p q : Place) → (place_number p == place_number q) ≡ true → SettlesIn own outer sub p ts
          → SettlesIn own outer sub q ts
      go Same Same is here = here
      go Sub Sub is here = here
      go Super Super is here = here
      go Same Sub is here = absurd (cc (is))
      go Same Super is here = absurd (cc (is))
      go Sub Same is here = absurd (cc (is))
      go Sub Super is here = absurd (cc (is))
      go Super Same is here = absurd (cc (is))
      go Super Sub is here = absurd (cc (is))

  children_settled : (n k : ℕ) (spawns : List Spawn) → Settle own outer sub spawns
      → AllByRecursion (λ (t : PendingTask). IsSettled kind t.ts) (map (child n) (filter (is_for place) (enumerate_from k spawns)))
  children_settled n k [] each = tt
  children_settled n k (s ∷ ss) each = go (is_for place (k, s)) refl (children_settled n (k + 1) ss each.1)
    where
      go : (b : Bool) → is_for place (k, s) ≡ b
          → AllByRecursion (λ (t : PendingTask). IsSettled kind t.ts) (map (child n) (filter (is_for place) (enumerate_from (k + 1) ss)))
          → AllByRecursion (λ (t : PendingTask). IsSettled kind t.ts) (map (child n) (if b then (k, s) ∷ filter (is_for place) (enumerate_from (k + 1) ss) else filter (is_for place) (enumerate_from (k + 1) ss)))
      go true is rest = (fits s.ts (same_place s.place is s.ts each.0), rest)
      go false is rest = rest

  pub children_old : (count : ℕ) (spawns : List Spawn) → Settle own outer sub spawns
      → AreOld (count + 1) kind (children place (count + 1) spawns)
  unfolding children
  children_old count spawns each =
      let numbered = children_numbered place (count + 1) 0 spawns in
      record { rise = numbered.rise; each = join _ numbered.each (children_settled (count + 1) 0 spawns each) }
    where
      join : (ts : List PendingTask)
          → AllByRecursion (λ (t : PendingTask). (t.name.creator ≡ count + 1) × (0 ≤ t.name.index)) ts
          → AllByRecursion (λ (t : PendingTask). IsSettled kind t.ts) ts → AllByRecursion (IsOld (count + 1) kind) ts
      join [] one two = tt
      join (t ∷ ts) one two = ((omega (arith, one.0.0), two.0), join ts one.1 two.1)

  pub old_more : (count : ℕ) (spawns : List Spawn) (tasks : List PendingTask) → Settle own outer sub spawns
      → AreOld count kind tasks
      → AreOld (count + 1) kind (tasks ++ children place (count + 1) spawns)
  unfolding children
  old_more count spawns tasks each old =
      let numbered = children_numbered place (count + 1) 0 spawns in
      let made = children_old count spawns each in
      record {
        rise = rise_more count kind tasks _ old.rise old.each numbered.rise
            (weaker (λ (u : PendingTask). (u.name.creator ≡ count + 1) × (0 ≤ u.name.index)) (λ (u : PendingTask). u.name.creator ≡ count + 1) _ (λ u holds. holds.0) numbered.each);
        each = both (IsOld (count + 1) kind) tasks _
            (weaker (IsOld count kind) (IsOld (count + 1) kind) tasks (λ t holds. (omega (arith, holds.0), holds.1)) old.each) made.each;
      }

old_without : (count : ℕ) (kind : Kind) (name : Name) (tasks : List PendingTask) → AreOld count kind tasks
    → AreOld count kind (without_name name tasks)
old_without count kind name tasks old =
    record { rise = rise_without name tasks old.rise; each = kept (IsOld count kind) name tasks old.each }

old_later : (count : ℕ) (kind : Kind) (tasks : List PendingTask) → AreOld count kind tasks
    → AreOld (count + 1) kind tasks
old_later count kind tasks old = record {
  rise = old.rise;
  each =
      weaker (IsOld count kind) (IsOld (count + 1) kind) tasks (λ t holds. (omega (arith, holds.0), holds.1)) old.each;
}

-- a turn keeps it
pub old_after : (count : ℕ) (bag : BagValue) (outer : List BagValue) (name : Name) (ts : ℕ) (spawns : List Spawn) (sub : Option Kind)
    → Settle bag.kind (kind_outside outer) sub spawns → AreGood (AreOld count) (bag ∷ outer)
    → AreGood (AreOld (count + 1)) (stack_after bag outer name (count + 1) ts spawns sub)
old_after count bag outer name ts spawns sub each old =
    good_after (AreOld count) (AreOld (count + 1)) (old_later count) bag outer name (count + 1) ts spawns sub old
    (old_more Same bag.kind bag.kind (kind_outside outer) sub (λ t settled. settled) count spawns (without_name name bag.tasks) each (old_without count bag.kind name bag.tasks old.0))
    (λ kind is. children_old Sub kind bag.kind (kind_outside outer) sub (by_kind sub kind is) count spawns each)
    (λ kind is tasks own. old_more Super kind bag.kind (kind_outside outer) sub (by_kind (kind_outside outer) kind is) count spawns tasks each own)
  where
    by_kind : (o : Option Kind) (kind : Kind) → o ≡ Some kind → (t : ℕ) → ((k : Kind) × (o ≡ Some k) × IsSettled k t)
        → IsSettled kind t
    by_kind o kind is t (k, at, settled) =
        let same : k ≡ kind = cc (at, is) in
        subst (λ x. IsSettled x t) same settled
