-- An abort keeps the order.
use Rattle.std.proofs.Common.{◌≡◌, ◌⊎◌, ℕ, Bool, true, false, List, [], ◌∷◌, ◌++◌, Option, Some, None, refl, sym, ap}
use Rattle.std.proofs.Common.{subst, ◌∙◌, inl, inr}
use Rattle.std.specs.Ordering.{ordering_then}
use Rattle.std.specs.declared.cmp.Ordering.TheVariants.{Less, Equal}
use Rattle.std.specs.Cmp.Lexicographic.{slice_cmp}
use Rattle.fractal_vt.specs.Levels.{Open, tie_cmp, level_cmp, levels_cmp}
use Rattle.fractal_vt.specs.Paths.{OnPath}
use Rattle.order_law.specs.Tasks.{Keyed, levels_of, HasNumber}
use Rattle.order_law.specs.Ordered.{LevelsBelow, HasCreator, IsShaped, IsOrdered}
use Rattle.order_law.specs.Events.{with_open_level, AbortsInKeys}
use Rattle.fractal_vt.proofs.Proved.{level_cmp_total, levels_cmp_total, same_front, same_number}

-- a key is below the same key with an open tiebreaker
pub rises : (ds : List Open) (l : Open) (n : ℕ) → l.tb ≡ Some n
    → slice_cmp level_cmp (ds ++ l ∷ []) (ds ++ record { ts = l.ts; tb = None } ∷ []) ≡ Less
rises ds l n closed =
    same_front level_cmp level_cmp_total ds (l ∷ []) (record { ts = l.ts; tb = None } ∷ [])
    ∙ ap (λ o. ordering_then o Equal) (last ∙ refl)
  where
    last : level_cmp l (record { ts = l.ts; tb = None }) ≡ Less
    last = ap (λ o. ordering_then o (tie_cmp l.tb None)) (same_number l.ts) ∙ ap (λ t. tie_cmp t None) closed

-- what is below a task is below it once it is open again
pub below_reopened : (xs : List Open) (task : Keyed) → levels_cmp xs (levels_of task) ≡ Less
    → levels_cmp xs (levels_of (with_open_level task)) ≡ Less
below_reopened xs task below = by_tie task.last.tb refl
  where
    by_tie : (t : Option ℕ) → task.last.tb ≡ t → levels_cmp xs (levels_of (with_open_level task)) ≡ Less
    by_tie None open' =
        sym (ap (λ t. levels_cmp xs (task.domain ++ record { ts = task.last.ts; tb = t } ∷ [])) open') ∙ below
    by_tie (Some n) closed =
        levels_cmp_total.trans xs (levels_of task) (levels_of (with_open_level task)) below (rises task.domain task.last n closed)

path_reopened : (path ds : List Open) (l : Open) → OnPath level_cmp path ds l
    → OnPath level_cmp path ds (record { ts = l.ts; tb = None })
path_reopened [] [] l on = tt
path_reopened (p ∷ path) [] l on = by_tie l.tb refl
  where
    by_tie : (t : Option ℕ) → l.tb ≡ t → level_cmp p (record { ts = l.ts; tb = None }) ≡ Less
    by_tie None open' = sym (ap (λ t. level_cmp p (record { ts = l.ts; tb = t })) open') ∙ on
    by_tie (Some n) closed =
        level_cmp_total.trans p l (record { ts = l.ts; tb = None }) on (ap (λ o. ordering_then o (tie_cmp l.tb None)) (same_number l.ts) ∙ ap (λ t. tie_cmp t None) closed)
path_reopened [] (d ∷ ds) l on = absurd on
path_reopened (p ∷ path) (d ∷ ds) l on = (on.0, path_reopened path ds l on.1)

module _ (set : ℕ → Bool) (old new : ℕ → Option Keyed) (path : List Open) (next : ℕ) (aborts : AbortsInKeys set old new) (ordered : IsOrdered old path next) where
  -- what a task is now, it was before, or it is a member that stays
  which : (k : ℕ) (x : Keyed) → new k ≡ Some x
      → ((set k ≡ false) × (old k ≡ Some x)) ⊎ ((y : Keyed) × (set k ≡ true) × (old k ≡ Some y) × (x ≡ with_open_level y) × ((c : ℕ) → y.creator ≡ Some c → set c ≡ false))
  which k x at = by_mark (set k) refl
    where
      by_mark : (b : Bool) → set k ≡ b
          → ((set k ≡ false) × (old k ≡ Some x)) ⊎ ((y : Keyed) × (set k ≡ true) × (old k ≡ Some y) × (x ≡ with_open_level y) × ((c : ℕ) → y.creator ≡ Some c → set c ≡ false))
      by_mark true is = let m = aborts.members k x is at in inr (m.0, is, m.1, m.2, m.3)
      by_mark false is = inl (is, sym (aborts.others k is) ∙ at)

  no_number : (x y : Keyed) (n : ℕ) → x ≡ with_open_level y → HasNumber x n → ⊥
  no_number x y n is has = let off : None ≡ Some n = sym (ap (λ z. z.last.tb) is) ∙ has in cc

  kept_creator : (creator : ℕ) (child : Keyed) → set creator ≡ false → HasCreator old creator child
      → HasCreator new creator child
  kept_creator creator child out has =
      record {
        task = has.task;
        there = aborts.others creator out ∙ has.there;
        number = has.number;
        dispatched = has.dispatched;
        below = has.below;
        kin = has.kin;
      }

  out_of_child : (k c : ℕ) (x : Keyed) → old k ≡ Some x → x.creator ≡ Some c → set k ≡ false → set c ≡ false
  out_of_child k c x at parent out = by_mark (set c) refl
    where
      by_mark : (b : Bool) → set c ≡ b → set c ≡ false
      by_mark true is = absurd (cc (aborts.holds_children k c x at parent is, out))
      by_mark false is = is

  pub abort_keeps_order : IsOrdered new path next
  abort_keeps_order =
      record {
        path_numbers = ordered.path_numbers;
        path_short = ordered.path_short;
        path_differs = ordered.path_differs;
        off_path = λ k x n at has on. elim (which k x at) [
          | inl was ↦ ordered.off_path k x n was.1 has on
          | inr m ↦ absurd (no_number x m.0 n m.3 has)
        ];
        shaped = λ k x at. elim (which k x at) [
          | inl was ↦ ordered.shaped k x was.1
          | inr m ↦ subst IsShaped (sym m.3) (ordered.shaped k m.0 m.2)
        ];
        domain_numbers = λ k x at. elim (which k x at) [
          | inl was ↦ ordered.domain_numbers k x was.1
          | inr m ↦ subst (λ z. LevelsBelow next z.domain) (sym m.3) (ordered.domain_numbers k m.0 m.2)
        ];
        number_below = λ k x n at has. elim (which k x at) [
          | inl was ↦ ordered.number_below k x n was.1 has
          | inr m ↦ absurd (no_number x m.0 n m.3 has)
        ];
        numbers_differ = λ a b x y n at at' has has'. elim (which a x at) [
          | inl was ↦ elim (which b y at') [
            | inl was' ↦ ordered.numbers_differ a b x y n was.1 was'.1 has has'
            | inr m ↦ absurd (no_number y m.0 n m.3 has')
          ]
          | inr m ↦ absurd (no_number x m.0 n m.3 has)
        ];
        creators = λ k x c at parent. elim (which k x at) [
          | inl was ↦ kept_creator c x (out_of_child k c x was.1 parent was.0) (ordered.creators k x c was.1 parent)
          | inr m ↦
              let parent' : m.0.creator ≡ Some c = sym (ap (λ z. z.creator) m.3) ∙ parent in
              let has = ordered.creators k m.0 c m.2 parent' in
              let raised : HasCreator old c (with_open_level m.0) = record { task = has.task; there = has.there; number = has.number; dispatched = has.dispatched; below = below_reopened (levels_of has.task) m.0 has.below; kin = has.kin } in
              kept_creator c x (m.4 c parent') (subst (HasCreator old c) (sym m.3) raised)
        ];
        on_path = λ k x at parent. elim (which k x at) [
          | inl was ↦ ordered.on_path k x was.1 parent
          | inr m ↦
              let was = ordered.on_path k m.0 m.2 (sym (ap (λ z. z.creator) m.3) ∙ parent) in
              subst (λ z. OnPath level_cmp path z.domain z.last) (sym m.3) (path_reopened path m.0.domain m.0.last was)
        ];
      }

pub abort_law : (set : ℕ → Bool) (old new : ℕ → Option Keyed) (path : List Open) (next : ℕ) → AbortsInKeys set old new
    → IsOrdered old path next → IsOrdered new path next
abort_law = abort_keeps_order
