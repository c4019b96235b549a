-- Of the tasks under ids below a bound, if there are any, there is one that none is below.
use Rattle.std.proofs.Common.{◌≡◌, ◌⊎◌, ◌<◌, ℕ, zero, suc, false, Option, Some, None, refl, sym, ap, subst, ◌∙◌, inl}
use Rattle.std.proofs.Common.{inr, arith}
use Rattle.std.proofs.lemmas.Bool.{cases_eq}
use Rattle.std.proofs.lemmas.Cmp.{tied_itself, upto}
use Rattle.std.specs.Ordering.{is_gt, ordering_reverse}
use Rattle.std.specs.declared.cmp.Ordering.{Ordering}
use Rattle.std.specs.declared.cmp.Ordering.TheVariants.{Less, Equal, Greater}
use Rattle.fractal_vt.specs.Levels.{levels_cmp}
use Rattle.fractal_vt.proofs.Proved.{levels_cmp_total}
use Rattle.order_law.specs.Tasks.{Keyed, levels_of}

-- the first task is not above the second
abbrev pub IsUpto : Keyed → Keyed → Type 0
IsUpto x y = is_gt (levels_cmp (levels_of x) (levels_of y)) ≡ false

-- a task that is above none of those under ids below a bound
pub record IsLowest (tasks : ℕ → Option Keyed) (bound : ℕ) : Type 0 where
  pub id : ℕ
  pub task : Keyed
  pub there : tasks id ≡ Some task
  pub low : (k : ℕ) (y : Keyed) → k < bound → tasks k ≡ Some y → IsUpto task y

turned : (x z : Keyed) → levels_cmp (levels_of x) (levels_of z) ≡ Greater → IsUpto z x
turned x z greater = ap is_gt (levels_cmp_total.antisymm (levels_of z) (levels_of x) ∙ ap ordering_reverse greater)

-- with one task more there is a lowest one still
with_one : (tasks : ℕ → Option Keyed) (bound : ℕ) (z : Keyed) → tasks bound ≡ Some z → IsLowest tasks bound
    → IsLowest tasks (suc bound)
with_one tasks bound z is low = by_order (levels_cmp (levels_of low.task) (levels_of z)) refl
  where
    same_task : (k : ℕ) (y : Keyed) → k ≡ bound → tasks k ≡ Some y → y ≡ z
    same_task k y same at = let both : Some y ≡ Some z = sym at ∙ ap tasks same ∙ is in cc

    stays : IsUpto low.task z → IsLowest tasks (suc bound)
    stays under =
        record {
          id = low.id;
          task = low.task;
          there = low.there;
          low = λ k y below at. elim (cases_eq k bound) [
            | inl same ↦ subst (IsUpto low.task) (sym (same_task k y same at)) under
            | inr other ↦ low.low k y (omega (arith, other)) at
          ];
        }

    by_order : (o : Ordering) → levels_cmp (levels_of low.task) (levels_of z) ≡ o → IsLowest tasks (suc bound)
    by_order Less less = stays (ap is_gt less)
    by_order Equal tie = stays (ap is_gt tie)
    by_order Greater greater =
        record {
          id = bound;
          task = z;
          there = is;
          low = λ k y below at. elim (cases_eq k bound) [
            | inl same ↦ subst (IsUpto z) (sym (same_task k y same at)) (ap is_gt (tied_itself levels_cmp_total (levels_of z)))
            | inr other ↦ upto levels_cmp_total (levels_of z) (levels_of low.task) (levels_of y) (turned low.task z greater) (low.low k y (omega (arith, other)) at)
          ];
        }

pub lowest : (tasks : ℕ → Option Keyed) (bound : ℕ) → ((k : ℕ) → k < bound → tasks k ≡ None) ⊎ IsLowest tasks bound
lowest tasks zero = inl (λ k below. absurd (omega arith))
lowest tasks (suc bound) = by_task (tasks bound) refl (lowest tasks bound)
  where
    by_task : (o : Option Keyed) → tasks bound ≡ o → ((k : ℕ) → k < bound → tasks k ≡ None) ⊎ IsLowest tasks bound
        → ((k : ℕ) → k < suc bound → tasks k ≡ None) ⊎ IsLowest tasks (suc bound)
    by_task None is (inl none) =
        inl (λ k below. elim (cases_eq k bound) [ inl same ↦ ap tasks same ∙ is | inr other ↦ none k (omega (arith, other)) ])
    by_task None is (inr low) = inr (record {
      id = low.id;
      task = low.task;
      there = low.there;
      low = λ k y below at. elim (cases_eq k bound) [
        | inl same ↦ absurd (cc (sym at ∙ ap tasks same ∙ is))
        | inr other ↦ low.low k y (omega (arith, other)) at
      ];
    })
    by_task (Some z) is (inl none) = inr (record {
      id = bound;
      task = z;
      there = is;
      low = λ k y below at. elim (cases_eq k bound) [
        | inl same ↦
            let both : Some y ≡ Some z = sym at ∙ ap tasks same ∙ is in
            let eq : y ≡ z = cc in
            subst (IsUpto z) (sym eq) (ap is_gt (tied_itself levels_cmp_total (levels_of z)))
        | inr other ↦ absurd (cc (sym at ∙ none k (omega (arith, other))))
      ];
    })
    by_task (Some z) is (inr low) = inr (with_one tasks bound z is low)
