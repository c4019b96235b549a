-- The least task becomes the heir once it is dispatched, and stays so.
use Rattle.std.proofs.Common.{◌≡◌, ◌≢◌, ℕ, Bool, true, false, List, [], ◌∷◌, ◌++◌, Option, Some, None, refl, sym, ap}
use Rattle.std.proofs.Common.{subst, ◌∙◌, inl, inr}
use Rattle.std.proofs.lemmas.Bool.{cases_eq}
use Rattle.std.specs.Ordering.{nat_cmp, ordering_then, ordering_reverse}
use Rattle.std.specs.declared.cmp.Ordering.{Ordering}
use Rattle.std.specs.declared.cmp.Ordering.TheVariants.{Less, Equal, Greater}
use Rattle.fractal_vt.proofs.Proved.{levels_cmp_total}
use Rattle.fractal_vt.specs.Levels.{Open, level_cmp, levels_cmp}
use Rattle.order_law.specs.Tasks.{Keyed, levels_of, HasNumber}
use Rattle.order_law.specs.Ordered.{TieBelow, LevelsBelow, HasCreator, IsOrdered}
use Rattle.order_law.specs.Events.{Changes, with_dispatch_number, DispatchesInKeys, AbortsInKeys, EnqueuesInKeys}
use Rattle.order_law.specs.Events.{IsLeastInKeys, beside, MovesInKeys}
use Rattle.order_law.specs.Heir.{IsHeirInKeys}
use Rattle.order_law.proofs.Numbers.{LevelsBelow-append}
use Rattle.order_law.proofs.Dispatched.{cmp_alike, levels_alike}
use Rattle.order_law.proofs.Aborted.{below_reopened, rises}
use Rattle.order_law.proofs.Spawned.{enqueued_creator}
use Rattle.order_law.proofs.Least.{least_is_below}
use Rattle.order_law.proofs.Moved.{Renames, moved_renames}

pub least_heir : (tasks : ℕ → Option Keyed) (path : List Open) (next id n : ℕ) (task : Keyed)
    → IsOrdered tasks path next → IsLeastInKeys tasks id task → HasNumber task n → IsHeirInKeys tasks id task
least_heir tasks path next id n task ordered least number =
    record {
      there = least.there;
      number = n;
      dispatched = number;
      least = least_is_below tasks path next id n task ordered least number;
    }

less_upto : (a b c : List Open) → levels_cmp a b ≡ Less → levels_cmp b c ≢ Greater → levels_cmp a c ≡ Less
less_upto a b c less upto = by_order (levels_cmp b c) refl
  where
    by_order : (o : Ordering) → levels_cmp b c ≡ o → levels_cmp a c ≡ Less
    by_order Less is = levels_cmp_total.trans a b c less is
    by_order Equal is =
        tied (levels_cmp_total.antisymm a c) (levels_cmp_total.antisymm a b) (levels_cmp_total.congr c b a (levels_cmp_total.antisymm c b ∙ ap Rattle.std.specs.Ordering.ordering_reverse is))
      where
        tied : levels_cmp a c ≡ Rattle.std.specs.Ordering.ordering_reverse (levels_cmp c a)
            → levels_cmp a b ≡ Rattle.std.specs.Ordering.ordering_reverse (levels_cmp b a)
            → levels_cmp c a ≡ levels_cmp b a → levels_cmp a c ≡ Less
        tied one two same = one ∙ ap Rattle.std.specs.Ordering.ordering_reverse same ∙ sym two ∙ less
    by_order Greater is = absurd (upto is)

-- a dispatch makes the least task the heir: its number is below the open tiebreaker that it had
pub dispatched_least_heir : (old new : ℕ → Option Keyed) (next : ℕ) (d : DispatchesInKeys old new next)
    → IsLeastInKeys old d.id d.task → IsHeirInKeys new d.id (with_dispatch_number d.task next)
dispatched_least_heir old new next d least =
    record {
      there = d.changes.changed;
      number = next;
      dispatched = refl;
      least =
          λ k x other at. less_upto (levels_of (with_dispatch_number d.task next)) (levels_of d.task) (levels_of x) falls (least.least k x (sym (d.changes.others k other) ∙ at));
    }
  where
    falls : levels_cmp (levels_of (with_dispatch_number d.task next)) (levels_of d.task) ≡ Less
    falls =
        ap (λ l. levels_cmp (levels_of (with_dispatch_number d.task next)) (d.task.domain ++ l ∷ [])) (ap (λ tie. record { ts = d.task.last.ts; tb = tie }) d.idle)
        ∙ rises d.task.domain (record { ts = d.task.last.ts; tb = Some next }) next refl

module _ (old new : ℕ → Option Keyed) (path : List Open) (next heir : ℕ) (task : Keyed) (ordered : IsOrdered old path next) (is : IsHeirInKeys old heir task) where
  heir_numbers : LevelsBelow next (levels_of task)
  heir_numbers =
      LevelsBelow-append next task.domain task.last (ordered.domain_numbers heir task is.there)
      (subst (TieBelow next) (sym is.dispatched) (ordered.number_below heir task is.number is.there is.dispatched))

  -- a dispatch of another task
  pub dispatch_keeps_heir : (id : ℕ) (x : Keyed) → old id ≡ Some x → x.last.tb ≡ None
      → Changes old new id (Some (with_dispatch_number x next)) → IsHeirInKeys new heir task
  dispatch_keeps_heir id x there idle changes =
      let differs : heir ≢ id = λ here. absurd (cc (is.there, is.dispatched, ap old here, there, idle)) in
      record {
        there = changes.others heir differs ∙ is.there;
        number = is.number;
        dispatched = is.dispatched;
        least = λ k y other at. elim (cases_eq k id) [
          | inl here ↦
              let same : Some (with_dispatch_number x next) ≡ Some y = sym changes.changed ∙ sym (ap new here) ∙ at in
              let eq : with_dispatch_number x next ≡ y = cc in
              let was : levels_cmp (levels_of task) (levels_of x) ≡ Less = is.least id x (λ e. differs (sym e)) there in
              let opened : x.last ≡ record { ts = x.last.ts; tb = None } = ap (λ tie. record { ts = x.last.ts; tb = tie }) idle in
              let alike = cmp_alike level_cmp (record { ts = x.last.ts; tb = None }) (record { ts = x.last.ts; tb = Some next }) (levels_of task) x.domain (levels_alike x.last.ts next (levels_of task) heir_numbers) in
              subst (λ z. levels_cmp (levels_of task) (levels_of z) ≡ Less) eq (sym alike ∙ sym (ap (λ l. levels_cmp (levels_of task) (x.domain ++ l ∷ [])) opened) ∙ was)
          | inr apart ↦ is.least k y other (sym (changes.others k apart) ∙ at)
        ];
      }

  -- a new child
  pub enqueue_leaves_heir : (id creator : ℕ) (child : Keyed) → old id ≡ None → Changes old new id (Some child)
      → HasCreator old creator child → IsHeirInKeys new heir task
  enqueue_leaves_heir id creator child vacant changes has =
      let differs : heir ≢ id = λ here. absurd (cc (is.there, ap old here, vacant)) in
      record {
        there = changes.others heir differs ∙ is.there;
        number = is.number;
        dispatched = is.dispatched;
        least = λ k y other at. elim (cases_eq k id) [
          | inl here ↦
              let same : Some child ≡ Some y = sym changes.changed ∙ sym (ap new here) ∙ at in
              let eq : child ≡ y = cc in
              subst (λ z. levels_cmp (levels_of task) (levels_of z) ≡ Less) eq (elim (cases_eq creator heir) [
                | inl mine ↦
                    let both : Some has.task ≡ Some task = sym has.there ∙ ap old mine ∙ is.there in
                    let eq' : has.task ≡ task = cc in
                    subst (λ z. levels_cmp (levels_of z) (levels_of child) ≡ Less) eq' has.below
                | inr not_mine ↦ levels_cmp_total.trans (levels_of task) (levels_of has.task) (levels_of child) (is.least creator has.task not_mine has.there) has.below
              ])
          | inr apart ↦ is.least k y other (sym (changes.others k apart) ∙ at)
        ];
      }

  -- an abort that leaves it alone
  pub abort_keeps_heir : (set : ℕ → Bool) → set heir ≡ false → AbortsInKeys set old new → IsHeirInKeys new heir task
  abort_keeps_heir set out aborts =
      record {
        there = aborts.others heir out ∙ is.there;
        number = is.number;
        dispatched = is.dispatched;
        least = λ k y other at. by_mark k y other at (set k) refl;
      }
    where
      by_mark : (k : ℕ) (y : Keyed) → k ≢ heir → new k ≡ Some y → (b : Bool) → set k ≡ b
          → levels_cmp (levels_of task) (levels_of y) ≡ Less
      by_mark k y other at true marked =
          let m = aborts.members k y marked at in
          subst (λ z. levels_cmp (levels_of task) (levels_of z) ≡ Less) (sym m.2) (below_reopened (levels_of task) m.0 (is.least k m.0 other m.1))
      by_mark k y other at false free = is.least k y other (sym (aborts.others k free) ∙ at)

  -- tasks that change their ids
  pub rename_keeps_heir : Renames old new → IsHeirInKeys new heir task
  rename_keeps_heir renames =
      record {
        there = renames.stays heir is.number task is.there is.dispatched;
        number = is.number;
        dispatched = is.dispatched;
        least = λ k y other at. (let from = renames.from k y at in elim (cases_eq from.0 heir) [
          | inl here ↦
              let both : Some y ≡ Some task = sym from.1 ∙ ap old here ∙ is.there in
              let eq : y ≡ task = cc in
              let now = ordered.numbers_differ k heir y task is.number (renames.was k is.number y at (ap (λ z. z.last.tb) eq ∙ is.dispatched)) is.there (ap (λ z. z.last.tb) eq ∙ is.dispatched) is.dispatched in
              absurd (other now)
          | inr apart ↦ is.least from.0 y apart from.1
        ]);
      }

pub dispatch_heir : (old new : ℕ → Option Keyed) (path : List Open) (next heir : ℕ) (task : Keyed)
    → DispatchesInKeys old new next → IsOrdered old path next → IsHeirInKeys old heir task → IsHeirInKeys new heir task
dispatch_heir old new path next heir task d ordered is =
    dispatch_keeps_heir old new path next heir task ordered is d.id d.task d.there d.idle d.changes

pub enqueue_heir : (old new : ℕ → Option Keyed) (path : List Open) (next heir : ℕ) (task : Keyed)
    → EnqueuesInKeys old new → IsOrdered old path next → IsHeirInKeys old heir task → IsHeirInKeys new heir task
enqueue_heir old new path next heir task s ordered is =
    let stands = enqueued_creator old new path next s ordered in
    enqueue_leaves_heir old new path next heir task ordered is s.id s.creator s.child s.vacant s.changes
    (record { task = s.task; there = s.there; number = s.number; dispatched = s.dispatched; below = stands.below; kin = stands.kin })

pub abort_heir : (set : ℕ → Bool) (old new : ℕ → Option Keyed) (path : List Open) (next heir : ℕ) (task : Keyed)
    → AbortsInKeys set old new → set heir ≡ false → IsOrdered old path next → IsHeirInKeys old heir task
    → IsHeirInKeys new heir task
abort_heir set old new path next heir task aborts out ordered is =
    abort_keeps_heir old new path next heir task ordered is set out aborts

pub move_heir : (bound : ℕ) (old new : ℕ → Option Keyed) (before after : List Keyed) (path : List Open) (next heir : ℕ) (task : Keyed)
    → MovesInKeys bound old new before after → IsOrdered (beside bound old before) path next
    → IsHeirInKeys (beside bound old before) heir task → IsHeirInKeys (beside bound new after) heir task
move_heir bound old new before after path next heir task moves ordered is =
    rename_keeps_heir (beside bound old before) (beside bound new after) path next heir task ordered is (moved_renames bound old new before after moves)
