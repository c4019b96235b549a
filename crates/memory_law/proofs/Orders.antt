-- The dispatched tasks stand by rising key in one order alone.
use Rattle.std.proofs.Common.{◌≡◌, ◌≢◌, ℕ, List, [], ◌∷◌, Option, refl, sym, ap, subst, ◌∙◌, inl, inr}
use Rattle.fractal_vt.specs.Levels.{level_cmp}
use Rattle.fractal_vt.proofs.Proved.{level_cmp_total, not_both}
use Rattle.memory_law.specs.Tasks.{Logged, In, Ascends, IsByKey}
use Rattle.memory_law.proofs.Latest.{not_self, member_dispatched}

-- each of the first is one of the second
abbrev pub Within : List ℕ → List ℕ → Type 0
Within ids others = (k : ℕ) → In k ids → In k others

module _ (tasks : ℕ → Option Logged) where
  -- the first does not stand again behind itself
  not_again : (x k : ℕ) (ids : List ℕ) → Ascends tasks (x ∷ ids) → In k ids → k ≢ x
  not_again x k ids up at same =
      not_self up.0 (up.3 k up.0 at (ap tasks same ∙ up.1))

  -- what stands in both lists, and is not first, stands behind the firsts
  rest_within : (x : ℕ) (ids others : List ℕ) → Ascends tasks (x ∷ ids) → Within (x ∷ ids) (x ∷ others)
      → Within ids others
  rest_within x ids others up within k at = elim (within k (inr at)) [
    | inl here ↦ absurd (not_again x k ids up at here)
    | inr later ↦ later
  ]

  -- the firsts are one, since each would be earlier than the other
  same_first : (x y : ℕ) (ids others : List ℕ) → Ascends tasks (x ∷ ids) → Ascends tasks (y ∷ others)
      → In x (y ∷ others) → In y (x ∷ ids) → x ≡ y
  same_first x y ids others up up' (inl here) there = here
  same_first x y ids others up up' (inr later) (inl here) = sym here
  same_first x y ids others up up' (inr later) (inr later') =
      absurd (not_both level_cmp level_cmp_total up.0.levels up'.0.levels (up.3 y up'.0 later' up'.1) (up'.3 x up.0 later up.1))

  same_order : (ids others : List ℕ) → Ascends tasks ids → Ascends tasks others → Within ids others → Within others ids
      → ids ≡ others
  same_order [] [] up up' one two = refl
  same_order [] (y ∷ others) up up' one two = absurd (two y (inl refl))
  same_order (x ∷ ids) [] up up' one two = absurd (one x (inl refl))
  same_order (x ∷ ids) (y ∷ others) up up' one two =
      let first : x ≡ y = same_first x y ids others up up' (one x (inl refl)) (two y (inl refl)) in
      let there : Within (x ∷ ids) (x ∷ others) = subst (λ z. Within (x ∷ ids) (z ∷ others)) (sym first) one in
      let back : Within (x ∷ others) (x ∷ ids) = subst (λ z. Within (z ∷ others) (x ∷ ids)) (sym first) two in
      let above : Ascends tasks (x ∷ others) = subst (λ z. Ascends tasks (z ∷ others)) (sym first) up' in
      let rest = same_order ids others up.4 above.4 (rest_within x ids others up there) (rest_within x others ids above back) in
      λ i. first i ∷ rest i

  -- each list of all dispatched tasks holds the tasks of another
  all_within : (ids others : List ℕ) → IsByKey tasks ids → IsByKey tasks others → Within ids others
  all_within ids others one two k at =
      let runs = member_dispatched tasks k ids at one.ascends in
      two.complete k runs.0 runs.1 runs.2

  pub one_order : (ids others : List ℕ) → IsByKey tasks ids → IsByKey tasks others → ids ≡ others
  one_order ids others one two =
      same_order ids others one.ascends two.ascends (all_within ids others one two) (all_within others ids two one)
