-- A cascade lies above what its first tasks lie above.
use Rattle.std.proofs.Common.{refl, ◌≡◌, ℕ, Bool, true, List, Option, Some, sym, subst, ◌∙◌, inl, inr}
use Rattle.std.specs.declared.cmp.Ordering.TheVariants.{Less}
use Rattle.fractal_vt.proofs.Proved.{level_cmp_total, levels_cmp_total, not_both}
use Rattle.abort_cascade.specs.Cascade.{Marked, Reached, start, step, IsLeastClosed}
use Rattle.fractal_vt.specs.Levels.{Open, level_cmp, levels_cmp}
use Rattle.order_law.specs.Tasks.{Keyed, levels_of}
use Rattle.order_law.specs.Ordered.{IsOrdered}
use Rattle.order_law.specs.Heir.{IsAbove, PullsLater}

module _ (tasks : ℕ → Option Keyed) (count : ℕ) (pull : ℕ → ℕ → Bool) (path : List Open) (next : ℕ) (ordered : IsOrdered tasks path next) (later : PullsLater tasks pull) (firsts : ℕ → Type 0) (low : List Open) (first_above : (k : ℕ) → firsts k → IsAbove tasks low k) where
  -- a child is above its creator too
  rises : (a b : ℕ) → pull a b ≡ true
      → (x : Keyed) × (y : Keyed) × (tasks a ≡ Some x) × (tasks b ≡ Some y) × (levels_cmp (levels_of x) (levels_of y) ≡ Less)
  rises a b pulled =
      let up = later a b pulled in
      elim up.4 [
        | inl child ↦
            (let has = ordered.creators b up.1 a up.3 child in (has.task, up.1, has.there, up.3, has.below))
        | inr above ↦ (up.0, up.1, up.2, up.3, above)
      ]

  pub reached_above : (k : ℕ) → Reached count pull firsts k → IsAbove tasks low k
  reached_above k (start a is) = first_above k is
  reached_above k (step {a} b r in_a in_b pulled) =
      let before = reached_above a r in
      let up = rises a b pulled in
      let both : Some before.0 ≡ Some up.0 = sym before.1 ∙ up.2 in
      let eq : before.0 ≡ up.0 = cc in
      (up.1, up.3, levels_cmp_total.trans low (levels_of up.0) (levels_of up.1) (subst (λ t. levels_cmp low (levels_of t) ≡ Less) eq before.2) up.4)

  -- a task with these levels is in no such cascade
  pub low_stays : (marks : List Bool) (id : ℕ) (task : Keyed) → tasks id ≡ Some task → levels_of task ≡ low
      → IsLeastClosed count pull firsts marks → Marked marks id → ⊥
  low_stays marks id task there is least marked =
      let above = reached_above id (least.reached id marked) in
      let both : Some above.0 ≡ Some task = sym above.1 ∙ there in
      let eq : above.0 ≡ task = cc in
      let self : levels_cmp low low ≡ Less = subst (λ ls. levels_cmp low ls ≡ Less) is (subst (λ t. levels_cmp low (levels_of t) ≡ Less) eq above.2) in
      not_both level_cmp level_cmp_total low low self self

pub cascade_law : (tasks : ℕ → Option Keyed) (path : List Open) (next count : ℕ) (pull : ℕ → ℕ → Bool) (firsts : ℕ → Type 0) (marks : List Bool) (low : List Open)
    → IsOrdered tasks path next → PullsLater tasks pull → IsLeastClosed count pull firsts marks
    → ((k : ℕ) → firsts k → IsAbove tasks low k)
    → (k : ℕ) → Marked marks k → IsAbove tasks low k
cascade_law tasks path next count pull firsts marks low ordered later least first_above k marked =
    reached_above tasks count pull path next ordered later firsts low first_above k (least.reached k marked)

pub spares_law : (tasks : ℕ → Option Keyed) (path : List Open) (next count : ℕ) (pull : ℕ → ℕ → Bool) (firsts : ℕ → Type 0) (marks : List Bool) (id : ℕ) (task : Keyed)
    → IsOrdered tasks path next → PullsLater tasks pull → IsLeastClosed count pull firsts marks → tasks id ≡ Some task
    → ((k : ℕ) → firsts k → IsAbove tasks (levels_of task) k)
    → Marked marks id → ⊥
spares_law tasks path next count pull firsts marks id task ordered later least there first_above =
    low_stays tasks count pull path next ordered later firsts
    (levels_of task) first_above marks id task there refl least
