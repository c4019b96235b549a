-- The count of events never falls.
use Rattle.std.proofs.Common.{arith, ◌≡◌, ◌≤◌, ◌<◌, ◌+◌, ◌-◌, ◌^◌, ℕ, zero, suc, subst, sym}
use Rattle.std.proofs.Math.Nat.{le-min, min-le_right}
use Rattle.guest_image.specs.ImageValue.{ImageValue}
use Rattle.conflict_book.specs.event_def.declared.event.Halt.{Halt}
use Rattle.conflict_book.specs.event_def.Advancing.{AdvancesBy}
use Rattle.conflict_book.specs.event_def.Book.{BookView, next_count}
use Rattle.conflict_book.specs.Halting.{RunsLeast}

-- the count is not below this one, and has its greatest value at most
record IsLater (steps later : ℕ) : Type 0 where
  pub no_less : steps ≤ later
  pub bounded : later ≤ 2 ^ 64 - 1

later_by_one : (steps mid new : ℕ) → IsLater steps mid → new ≡ next_count mid → IsLater steps new
later_by_one steps mid new later one =
    let before = later.no_less in
    let most = later.bounded in
    let small : steps ≤ mid + 1 = omega (arith, before) in
    let few : steps ≤ 2 ^ 64 - 1 = omega (arith, before, most) in
    record {
      no_less = subst (λ n. steps ≤ n) (sym one) (le-min small few);
      bounded = subst (λ n. n ≤ 2 ^ 64 - 1) (sym one) (min-le_right (mid + 1) (2 ^ 64 - 1));
    }

later_by : (N : Type 0) (image : ImageValue) (made : ℕ) (old new : BookView) → AdvancesBy N image made old new
    → old.steps ≤ 2 ^ 64 - 1
    → IsLater old.steps new.steps
later_by N image zero old new same few =
    subst (λ (b : BookView). IsLater old.steps b.steps) same (record { no_less = omega arith; bounded = few })
later_by N image (suc made) old new is few =
    later_by_one old.steps is.0.steps new.steps (later_by N image made old is.0 is.2 few) is.3.happens.steps

-- in a run by the least tasks the count doesn't fall
pub runs_later : (N : Type 0) (image : ImageValue) (old new : BookView) (halt : Halt) → RunsLeast N image old halt new
    → old.steps < 2 ^ 64 → old.steps ≤ new.steps
runs_later N image old new halt runs few =
    (later_by N image runs.made old new runs.advances (omega (arith, few))).no_less
