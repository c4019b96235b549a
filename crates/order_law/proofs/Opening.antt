-- The order holds before the first event.
use Rattle.std.proofs.Common.{◌≡◌, ◌<◌, ℕ, [], length, Option, Some, None, sym, subst, ◌∙◌, arith}
use Rattle.std.specs.List.{AllZip}
use Rattle.fractal_vt.specs.declared.vt.TheConstants.{MAX_LEVELS}
use Rattle.fractal_vt.specs.Levels.{level_cmp}
use Rattle.fractal_vt.specs.Paths.{OnPath}
use Rattle.order_law.specs.Tasks.{Keyed, HasNumber, IsTimely}
use Rattle.order_law.specs.Ordered.{LevelsBelow, IsOrdered}
use Rattle.order_law.specs.Opening.{IsRoot}

module _ (tasks : ℕ → Option Keyed) (roots : (id : ℕ) (task : Keyed) → tasks id ≡ Some task → IsRoot task) where
  no_number : (id : ℕ) (x : Keyed) (n : ℕ) → tasks id ≡ Some x → HasNumber x n → ⊥
  no_number id x n at has = let off : None ≡ Some n = sym (roots id x at).idle ∙ has in cc

  pub opening_law : IsOrdered tasks [] 0
  opening_law =
      record {
        path_short = omega arith;
        path_numbers = tt;
        path_differs = tt;
        domain_numbers = λ id x at. subst (LevelsBelow 0) (sym (roots id x at).domain) tt;
        number_below = λ id x n at has. absurd (no_number id x n at has);
        numbers_differ = λ a b x y n at at' has has'. absurd (no_number a x n at has);
        off_path = λ id x n at has on. absurd (no_number id x n at has);
        creators =
            λ id x c at made. (let off : None ≡ Some c = sym (roots id x at).committed ∙ made in absurd (cc (off)));
        on_path = λ id x at free. subst (λ ds. OnPath level_cmp [] ds x.last) (sym (roots id x at).domain) tt;
        shaped = λ id x at.
            (let is = roots id x at in (
              subst (λ ds. length ds < MAX_LEVELS) (sym is.domain) (omega arith),
              subst (λ ks. AllZip IsTimely ks x.domain) (sym is.kinds) (subst (AllZip IsTimely []) (sym is.domain) tt),
              is.timely,
            ));
      }
