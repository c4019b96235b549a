-- Legs that are held for cores.
use Rattle.std.proofs.Common.{◌≡◌, ℕ, zero, suc, ◌<◌, ◌≤◌, Bool, true, false, cond, not, nat_lt, List, [], ◌∷◌, length}
use Rattle.std.proofs.Common.{get_or, Some, None, refl, ap, sym, ◌∙◌, arith}
use Rattle.std.specs.declared.option.Option.{Option}
use Rattle.std.specs.List.{remove, position, position_or_len, AllByRecursion}
use Rattle.std.proofs.lemmas.List.Quantifiers.{position-Some}
use Rattle.std.proofs.lemmas.List.Sums.{fails_before_first}
use Rattle.std.proofs.lemmas.Option.{none-some}
use Rattle.std.proofs.lemmas.Bool.Decides.{nat_tests}
use Rattle.std.proofs.Common.{subst, ◌++◌, if◌then◌else◌}
use Rattle.rv_core.specs.LegValue.{LegValue, IsLegOfImage}
use Rattle.step_script.specs.Playing.{HeldLeg, is_held_for, held_for, without_held_leg}
use Rattle.guest_image.specs.ImageValue.{ImageValue}
use Rattle.conflict_book.specs.spec_state.declared.settings.Settings.{Settings}

-- the first leg that stands there for a core is what is held for it
held_at : (tile core : ℕ) (held : List HeldLeg) (i : ℕ) (d : HeldLeg) → i < length held
    → is_held_for tile core (get_or held i d) ≡ true
    → ((k : ℕ) → k < i → is_held_for tile core (get_or held k d) ≡ false)
    → ◌≡◌ {A = Option LegValue} (held_for tile core held) (Some ((get_or held i d).leg))
held_at tile core [] i d below is before = absurd (omega (arith, below))
held_at tile core (h ∷ held) zero d below is before = ap (λ test. cond test (Some h.leg) (held_for tile core held)) is
held_at tile core (h ∷ held) (suc i) d below is before =
    ap (λ test. cond test (Some h.leg) (held_for tile core held)) (before 0 (omega arith))
    ∙ held_at tile core held i d (omega (arith, below)) is (λ k lt. before (suc k) (omega (arith, lt)))

-- where no leg stands there for a core, none is held for it
held_none : (tile core : ℕ) (held : List HeldLeg)
    → ((k : ℕ) (d : HeldLeg) → k < length held → is_held_for tile core (get_or held k d) ≡ false)
    → ◌≡◌ {A = Option LegValue} (held_for tile core held) None
held_none tile core [] fails = refl
held_none tile core (h ∷ held) fails =
    ap (λ test. cond test (Some h.leg) (held_for tile core held)) (fails 0 h (omega arith))
    ∙ held_none tile core held (λ k d lt. fails (suc k) d (omega (arith, lt)))

-- and nothing is given up for it
pub without_unheld : (tile core : ℕ) (held : List HeldLeg) → ◌≡◌ {A = Option LegValue} (held_for tile core held) None
    → without_held_leg tile core held ≡ held
without_unheld tile core [] none = refl
without_unheld tile core (h ∷ held) none = go (is_held_for tile core h) refl none (without_unheld tile core held)
  where
    go : (test : Bool) → is_held_for tile core h ≡ test
        → ◌≡◌ {A = Option LegValue} (cond test (Some h.leg) (held_for tile core held)) None
        → (◌≡◌ {A = Option LegValue} (held_for tile core held) None → without_held_leg tile core held ≡ held)
        → without_held_leg tile core (h ∷ held) ≡ h ∷ held
    go true is none rest = absurd (none-some h.leg (sym none))
    go false is none rest =
        ap (λ test. cond (not test) (h ∷ without_held_leg tile core held) (without_held_leg tile core held)) is
        ∙ ap (λ others. h ∷ others) (rest none)

-- a leg for the core that was taken out before makes no difference to what is left without it
without_removed : (tile core : ℕ) (held : List HeldLeg) (i : ℕ) (d : HeldLeg) → i < length held
    → is_held_for tile core (get_or held i d) ≡ true
    → without_held_leg tile core (remove held i) ≡ without_held_leg tile core held
without_removed tile core [] i d below is = absurd (omega (arith, below))
without_removed tile core (h ∷ held) zero d below is =
    sym (ap (λ test. cond (not test) (h ∷ without_held_leg tile core held) (without_held_leg tile core held)) is)
without_removed tile core (h ∷ held) (suc i) d below is =
    ap (λ rest. cond (not (is_held_for tile core h)) (h ∷ rest) rest) (without_removed tile core held i d (omega (arith, below)) is)

-- ---- by the place that was found

no_place : (tile core : ℕ) (held : List HeldLeg) → position (is_held_for tile core) held ≡ None
    → (k : ℕ) (d : HeldLeg) → k < length held → is_held_for tile core (get_or held k d) ≡ false
no_place tile core held none k d lt =
    let first = position_or_len (is_held_for tile core) held in
    let past : length held ≤ first = go (nat_lt first (length held)) refl none in
    fails_before_first (is_held_for tile core) held k d (omega (arith, past, lt))
  where
    go : (test : Bool) → nat_lt (position_or_len (is_held_for tile core) held) (length held) ≡ test
        → ◌≡◌ {A = Option ℕ} (cond test (Some (position_or_len (is_held_for tile core) held)) None) None
        → length held ≤ position_or_len (is_held_for tile core) held
    go true is none = absurd (none-some (position_or_len (is_held_for tile core) held) (sym none))
    go false is none = grind (arith, nat_tests, is)

pub held-no_place : (tile core : ℕ) (held : List HeldLeg) → position (is_held_for tile core) held ≡ None
    → ◌≡◌ {A = Option LegValue} (held_for tile core held) None
held-no_place tile core held none = held_none tile core held (no_place tile core held none)

pub held-at_place : (tile core : ℕ) (held : List HeldLeg) (i : ℕ) (d : HeldLeg)
    → position (is_held_for tile core) held ≡ Some i
    → ◌≡◌ {A = Option LegValue} (held_for tile core held) (Some ((get_or held i d).leg))
held-at_place tile core held i d found =
    let at = position-Some (is_held_for tile core) held i d found in held_at tile core held i d at.0 at.1 at.2

pub without_held_leg-at_place : (tile core : ℕ) (held : List HeldLeg) (i : ℕ) (d : HeldLeg)
    → position (is_held_for tile core) held ≡ Some i
    → without_held_leg tile core (remove held i) ≡ without_held_leg tile core held
without_held_leg-at_place tile core held i d found =
    let at = position-Some (is_held_for tile core) held i d found in without_removed tile core held i d at.0 at.1

-- ---- legs that are held are runs of the image

abbrev pub AreRuns : ImageValue → Settings → List HeldLeg → Type 0
AreRuns image settings held = AllByRecursion (λ (h : HeldLeg). IsLegOfImage image settings.budget h.leg) held

module _ (image : ImageValue) (settings : Settings) (tile core : ℕ) where
  pub held_runs : (held : List HeldLeg) (leg : LegValue) → AreRuns image settings held
      → held_for tile core held ≡ Some leg
      → IsLegOfImage image settings.budget leg
  held_runs [] leg runs is = absurd (cc (is))
  held_runs (h ∷ held) leg runs is = by_test (is_held_for tile core h) is (held_runs held leg runs.1)
    where
      by_test : (t : Bool) → (if t then Some h.leg else held_for tile core held) ≡ Some leg
          → (held_for tile core held ≡ Some leg → IsLegOfImage image settings.budget leg)
          → IsLegOfImage image settings.budget leg
      by_test true found rest = let same : h.leg ≡ leg = cc in subst (IsLegOfImage image settings.budget) same runs.0
      by_test false found rest = rest found

  pub without_runs : (held : List HeldLeg) → AreRuns image settings held
      → AreRuns image settings (without_held_leg tile core held)
  without_runs [] runs = tt
  without_runs (h ∷ held) runs = by_test (not (is_held_for tile core h)) (without_runs held runs.1)
    where
      by_test : (t : Bool) → AreRuns image settings (without_held_leg tile core held)
          → AreRuns image settings
          (cond t (h ∷ without_held_leg tile core held) (without_held_leg tile core held))
      by_test true rest = (runs.0, rest)
      by_test false rest = rest

  pub ended_runs : (held : List HeldLeg) (h : HeldLeg) → AreRuns image settings held
      → IsLegOfImage image settings.budget h.leg → AreRuns image settings (held ++ h ∷ [])
  ended_runs [] h runs run = (run, tt)
  ended_runs (g ∷ held) h runs run = (runs.0, ended_runs held h runs.1 run)
