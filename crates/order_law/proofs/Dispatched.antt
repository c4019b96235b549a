-- A dispatch keeps the order.
use Rattle.std.proofs.Common.{◌≡◌, ◌≢◌, ◌⊎◌, ℕ, ◌+◌, ◌<◌, List, [], ◌∷◌, ◌++◌, Option, Some, None, refl, sym, ap, subst}
use Rattle.std.proofs.Common.{◌∙◌, inl, inr, arith}
use Rattle.std.proofs.lemmas.Bool.{cases_eq}
use Rattle.std.proofs.lemmas.Bool.Decides.{nat_tests}
use Rattle.std.specs.Ordering.{nat_cmp, ordering_then}
use Rattle.std.specs.declared.cmp.Ordering.{Ordering}
use Rattle.std.specs.Cmp.Lexicographic.{slice_cmp}
use Rattle.fractal_vt.specs.Levels.{Open, tie_cmp, level_cmp, levels_cmp}
use Rattle.fractal_vt.specs.Paths.{OnPath}
use Rattle.order_law.specs.Tasks.{Keyed, levels_of}
use Rattle.order_law.specs.Ordered.{TieBelow, LevelsBelow, HasCreator, IsShaped, IsOrdered}
use Rattle.order_law.specs.Events.{Changes, with_dispatch_number, DispatchesInKeys}
use Rattle.order_law.proofs.Numbers.{LevelsBelow-append, LevelsBelow-more, below_from}

-- two last levels that each level of a list compares with alike
abbrev pub Alike : {X : Type 0} → (X → X → Ordering) → X → X → List X → Type 0
Alike R l m [] = Unit {0}
Alike R l m (x ∷ xs) = (R x l ≡ R x m) × Alike R l m xs

pub cmp_alike : {X : Type 0} (R : X → X → Ordering) (l m : X) (xs ds : List X) → Alike R l m xs
    → slice_cmp R xs (ds ++ l ∷ []) ≡ slice_cmp R xs (ds ++ m ∷ [])
cmp_alike R l m [] [] alike = refl
cmp_alike R l m [] (d ∷ ds) alike = refl
cmp_alike R l m (x ∷ xs) [] alike = ap (λ o. ordering_then o (slice_cmp R xs [])) alike.0
cmp_alike R l m (x ∷ xs) (d ∷ ds) alike = ap (ordering_then (R x d)) (cmp_alike R l m xs ds alike.1)

pub path_alike : {X : Type 0} (R : X → X → Ordering) (l m : X) (path ds : List X) → Alike R l m path
    → OnPath R path ds l → OnPath R path ds m
path_alike R l m [] [] alike on = tt
path_alike R l m (p ∷ path) [] alike on = sym alike.0 ∙ on
path_alike R l m [] (d ∷ ds) alike on = absurd on
path_alike R l m (p ∷ path) (d ∷ ds) alike on = (on.0, path_alike R l m path ds alike.1 on.1)

-- a number that is next compares with earlier ones as an open tiebreaker does
next_alike : (ts next : ℕ) (x : Open) → TieBelow next x.tb
    → level_cmp x (record { ts = ts; tb = None }) ≡ level_cmp x (record { ts = ts; tb = Some next })
next_alike ts next x below = ap (ordering_then (nat_cmp x.ts ts)) (ties x.tb below)
  where
    ties : (tie : Option ℕ) → TieBelow next tie → tie_cmp tie None ≡ tie_cmp tie (Some next)
    ties None below' = absurd below'
    ties (Some n) below' = grind (arith, nat_tests)

pub levels_alike : (ts next : ℕ) (xs : List Open) → LevelsBelow next xs
    → Alike level_cmp (record { ts = ts; tb = None }) (record { ts = ts; tb = Some next }) xs
levels_alike ts next [] below = tt
levels_alike ts next (x ∷ xs) below = (next_alike ts next x below.0, levels_alike ts next xs below.1)

module _ (old new : ℕ → Option Keyed) (path : List Open) (next id : ℕ) (task : Keyed) (there : old id ≡ Some task) (idle : task.last.tb ≡ None) (changes : Changes old new id (Some (with_dispatch_number task next))) (ordered : IsOrdered old path next) where
  -- what a task is now, it was before, or it is the one with the new number
  which : (k : ℕ) (x : Keyed) → new k ≡ Some x
      → ((k ≡ id) × (x ≡ with_dispatch_number task next)) ⊎ ((k ≢ id) × (old k ≡ Some x))
  which k x at = elim (cases_eq k id) [
    | inl here ↦ inl (here, cc (changes.changed, ap new here, at))
    | inr other ↦ inr (other, sym (changes.others k other) ∙ at)
  ]

  open_last : task.last ≡ record { ts = task.last.ts; tb = None }
  open_last = ap (λ tie. record { ts = task.last.ts; tb = tie }) idle

  -- a creator stays one, since it is not the task that gets the number
  kept_creator : (creator : ℕ) (child : Keyed) → HasCreator old creator child → HasCreator new creator child
  kept_creator creator child has =
      let other : creator ≢ id = λ here. absurd (cc (has.there, has.dispatched, there, idle, ap old here)) in
      record {
        task = has.task;
        there = changes.others creator other ∙ has.there;
        number = has.number;
        dispatched = has.dispatched;
        below = has.below;
        kin = has.kin;
      }

  -- the levels of a creator have earlier numbers
  creator_numbers : (creator : ℕ) (child : Keyed) (has : HasCreator old creator child)
      → LevelsBelow next (levels_of has.task)
  creator_numbers creator child has =
      let below : has.number < next = ordered.number_below creator has.task has.number has.there has.dispatched in
      let tie : TieBelow next has.task.last.tb = subst (TieBelow next) (sym has.dispatched) below in
      LevelsBelow-append next has.task.domain has.task.last (ordered.domain_numbers creator has.task has.there) tie

  own_creator : (creator : ℕ) → HasCreator old creator task → HasCreator old creator (with_dispatch_number task next)
  own_creator creator has =
      let alike = cmp_alike level_cmp (record { ts = task.last.ts; tb = None }) (record { ts = task.last.ts; tb = Some next }) (levels_of has.task) task.domain (levels_alike task.last.ts next (levels_of has.task) (creator_numbers creator task has)) in
      record {
        task = has.task;
        there = has.there;
        number = has.number;
        dispatched = has.dispatched;
        below = sym alike ∙ sym (ap (λ l. levels_cmp (levels_of has.task) (task.domain ++ l ∷ [])) open_last)
            ∙ has.below;
        kin = has.kin;
      }

  pub dispatch_keeps_order : IsOrdered new path (next + 1)
  dispatch_keeps_order =
      record {
        path_numbers = LevelsBelow-more next path ordered.path_numbers;
        path_short = ordered.path_short;
        path_differs = ordered.path_differs;
        off_path = λ k x n at has on. elim (which k x at) [
          | inl here ↦
              let same : Some n ≡ Some next = sym has ∙ ap (λ y. y.last.tb) here.1 in
              let eq : n ≡ next = cc in
              let below : n < next = below_from next path n ordered.path_numbers on in
              absurd (omega arith)
          | inr was ↦ ordered.off_path k x n was.1 has on
        ];
        shaped = λ k x at. elim (which k x at) [
          | inl here ↦ subst IsShaped (sym here.1) (ordered.shaped id task there)
          | inr was ↦ ordered.shaped k x was.1
        ];
        domain_numbers = λ k x at. LevelsBelow-more next x.domain (elim (which k x at) [
          | inl here ↦ subst (λ y. LevelsBelow next y.domain) (sym here.1) (ordered.domain_numbers id task there)
          | inr was ↦ ordered.domain_numbers k x was.1
        ]);
        number_below = λ k x n at has. elim (which k x at) [
          | inl here ↦ let same : Some n ≡ Some next = sym has ∙ ap (λ y. y.last.tb) here.1 in let eq : n ≡ next = cc in omega arith
          | inr was ↦ let below : n < next = ordered.number_below k x n was.1 has in omega arith
        ];
        numbers_differ = λ a b x y n at at' has has'. elim (which a x at) [
          | inl here ↦ elim (which b y at') [
            | inl here' ↦ here.0 ∙ sym here'.0
            | inr was' ↦
                let same : Some n ≡ Some next = sym has ∙ ap (λ y. y.last.tb) here.1 in
                let eq : n ≡ next = cc in
                let below : n < next = ordered.number_below b y n was'.1 has' in
                absurd (omega arith)
          ]
          | inr was ↦ elim (which b y at') [
            | inl here' ↦
                let same : Some n ≡ Some next = sym has' ∙ ap (λ y. y.last.tb) here'.1 in
                let eq : n ≡ next = cc in
                let below : n < next = ordered.number_below a x n was.1 has in
                absurd (omega arith)
            | inr was' ↦ ordered.numbers_differ a b x y n was.1 was'.1 has has'
          ]
        ];
        creators = λ k x creator at parent. elim (which k x at) [
          | inl here ↦
              let own : HasCreator old creator (with_dispatch_number task next) = own_creator creator (ordered.creators id task creator there (sym (ap (λ y. y.creator) here.1) ∙ parent)) in
              kept_creator creator x (subst (HasCreator old creator) (sym here.1) own)
          | inr was ↦ kept_creator creator x (ordered.creators k x creator was.1 parent)
        ];
        on_path = λ k x at parent. elim (which k x at) [
          | inl here ↦
              let was = ordered.on_path id task there (sym (ap (λ y. y.creator) here.1) ∙ parent) in
              let was_open : OnPath level_cmp path task.domain (record { ts = task.last.ts; tb = None }) = subst (OnPath level_cmp path task.domain) open_last was in
              subst (λ y. OnPath level_cmp path y.domain y.last) (sym here.1)
              (path_alike level_cmp (record { ts = task.last.ts; tb = None }) (record { ts = task.last.ts; tb = Some next }) path task.domain (levels_alike task.last.ts next path ordered.path_numbers) was_open)
          | inr was ↦ ordered.on_path k x was.1 parent
        ];
      }

pub dispatch_law : (old new : ℕ → Option Keyed) (path : List Open) (next : ℕ) → DispatchesInKeys old new next
    → IsOrdered old path next → IsOrdered new path (next + 1)
dispatch_law old new path next d ordered =
    dispatch_keeps_order old new path next d.id d.task d.there d.idle d.changes ordered
