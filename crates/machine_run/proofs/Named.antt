-- What is proved of the image and the limits that a naming names holds of those with which a run is made.
use Rattle.std.proofs.Common.{ℕ, sym, subst, Bool}
use Rattle.guest_image.specs.ImageValue.{ImageValue}
use Rattle.outcome_law.specs.spec_state.declared.settings.Settings.{Settings}
use Rattle.outcome_law.specs.spec_state.Settings.{IsNamed}
use Rattle.machine_run.specs.declared.left.Ran.{Ran}
use Rattle.machine_run.specs.declared.left.Stopped.{Stopped}
use Rattle.machine_run.specs.Halted.{IsHalted, IsLeftOf, KeepsPending}

module _ (given : ImageValue) (settings : Settings) (image : ImageValue) (budget commits : ℕ)
    (named : IsNamed given settings image budget commits) where
  limits_named : (P : ImageValue → ℕ → ℕ → Type 0) → P image commits budget
      → P given settings.commits settings.budget
  limits_named P held =
      subst (λ own. P own settings.commits settings.budget) (sym named.image_is)
      (subst (λ most. P image most settings.budget) (sym named.commits_is)
      (subst (λ most. P image commits most) (sym named.budget_is) held))

  pub left_named : (ran : Ran) → IsLeftOf image commits budget ran
      → IsLeftOf given settings.commits settings.budget ran
  left_named ran left = limits_named (λ own most limit. IsLeftOf own most limit ran) left

  pub halted_named : (ran : Ran) → IsHalted image commits budget ran
      → IsHalted given settings.commits settings.budget ran
  halted_named ran halted = limits_named (λ own most limit. IsHalted own most limit ran) halted

  pub pending_named : (goes_on : Bool) (stopped : Stopped) → KeepsPending image budget goes_on stopped
      → KeepsPending given settings.budget goes_on stopped
  pending_named goes_on stopped keeps =
      limits_named (λ own most limit. KeepsPending own limit goes_on stopped) keeps
