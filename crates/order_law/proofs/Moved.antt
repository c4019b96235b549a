-- A coalescing and a split keep the order: they only change ids, and that of no dispatched task.
use Rattle.std.proofs.Common.{◌≡◌, ◌⊎◌, ℕ, ◌+◌, ◌-◌, ◌<◌, Bool, true, false, List, Option, Some, ap, ◌∙◌, inl, inr}
use Rattle.std.proofs.Common.{arith, slice_get, if◌then◌else◌, nat_lt}
use Rattle.std.proofs.lemmas.Bool.Decides.{nat_tests}
use Rattle.std.proofs.lemmas.Bool.{lt-ltb}
use Rattle.fractal_vt.specs.Levels.{Open}
use Rattle.order_law.specs.Tasks.{Keyed, HasNumber}
use Rattle.order_law.specs.Ordered.{IsOrdered}
use Rattle.order_law.specs.Events.{IsLeastInKeys, beside, IsAmongSpilled, MovesInKeys}

-- each task is one of before, and each dispatched one has kept its id
pub record Renames (old new : ℕ → Option Keyed) : Type 0 where
  pub from : (k : ℕ) (x : Keyed) → new k ≡ Some x → (j : ℕ) × (old j ≡ Some x)
  pub stays : (k n : ℕ) (x : Keyed) → old k ≡ Some x → HasNumber x n → new k ≡ Some x
  pub was : (k n : ℕ) (x : Keyed) → new k ≡ Some x → HasNumber x n → old k ≡ Some x

pub rename_keeps_order : (old new : ℕ → Option Keyed) (path : List Open) (next : ℕ) → Renames old new
    → IsOrdered old path next → IsOrdered new path next
rename_keeps_order old new path next renames ordered =
    record {
      path_numbers = ordered.path_numbers;
      path_short = ordered.path_short;
      path_differs = ordered.path_differs;
      off_path = λ k x n at has on. ordered.off_path k x n (renames.was k n x at has) has on;
      shaped = λ k x at. (let f = renames.from k x at in ordered.shaped f.0 x f.1);
      domain_numbers = λ k x at. (let f = renames.from k x at in ordered.domain_numbers f.0 x f.1);
      number_below = λ k x n at has. ordered.number_below k x n (renames.was k n x at has) has;
      numbers_differ =
          λ a b x y n at at' has has'. ordered.numbers_differ a b x y n (renames.was a n x at has) (renames.was b n y at' has') has has';
      creators =
          λ k x c at parent. (let f = renames.from k x at in let h = ordered.creators f.0 x c f.1 parent in record { task = h.task; there = renames.stays c h.number h.task h.there h.dispatched; number = h.number; dispatched = h.dispatched; below = h.below; kin = h.kin });
      on_path = λ k x at parent. (let f = renames.from k x at in ordered.on_path f.0 x f.1 parent);
    }

-- an id from the bound on fails the test for it
pub high_test : (bound j : ℕ) → nat_lt (bound + j) bound ≡ false
high_test bound j = grind (arith, nat_tests)

-- what is there is a queued task or a spilled one
module _ (bound : ℕ) (tasks : ℕ → Option Keyed) (spilled_list : List Keyed) where
  -- what stands under an id is a queued task or a spilled one
  pub beside_which : (k : ℕ) (x : Keyed) → beside bound tasks spilled_list k ≡ Some x
      → (tasks k ≡ Some x) ⊎ IsAmongSpilled x spilled_list
  beside_which k x at = by_test (nat_lt k bound) at
    where
      by_test : (b : Bool) → (if b then tasks k else slice_get spilled_list (k - bound)) ≡ Some x
          → (tasks k ≡ Some x) ⊎ IsAmongSpilled x spilled_list
      by_test true e = inl e
      by_test false e = inr (k - bound, e)

  -- and each of both stands there
  pub beside_task : (k : ℕ) (x : Keyed) → k < bound → tasks k ≡ Some x → beside bound tasks spilled_list k ≡ Some x
  beside_task k x low at = ap (λ b. if b then tasks k else slice_get spilled_list (k - bound)) (lt-ltb k bound low) ∙ at

  pub beside_spilled : (x : Keyed) → IsAmongSpilled x spilled_list
      → (j : ℕ) × (beside bound tasks spilled_list j ≡ Some x)
  beside_spilled x is =
      let same : bound + is.0 - bound ≡ is.0 = omega arith in
      (bound + is.0, ap (λ b. if b then tasks (bound + is.0) else slice_get spilled_list (bound + is.0 - bound)) (high_test bound is.0) ∙ ap (slice_get spilled_list) same ∙ is.1)

-- each queued or spilled task was one before, and the dispatched tasks have kept their ids
pub moved_renames : (bound : ℕ) (old new : ℕ → Option Keyed) (before after : List Keyed)
    → MovesInKeys bound old new before after → Renames (beside bound old before) (beside bound new after)
moved_renames bound old new before after moves =
    record {
      from = λ k x at. elim (beside_which bound new after k x at) [
        | inl task ↦ elim (moves.queued k x task) [
          | inl was ↦ (k, beside_task bound old before k x (moves.kept_before.bounded k x was) was)
          | inr entry ↦ beside_spilled bound old before x entry
        ]
        | inr entry ↦ elim (moves.spilled x entry) [
          | inl was ↦ beside_spilled bound old before x was
          | inr task ↦ (
            task.0,
            beside_task bound old before task.0 x
                (moves.kept_before.bounded task.0 x task.1) task.1,
          )
        ]
      ];
      stays = λ k n x at has. elim (beside_which bound old before k x at) [
        | inl task ↦ (let now = (moves.dispatched k n x has).0 task in beside_task bound new after k x (moves.kept_after.bounded k x now) now)
        | inr entry ↦ absurd (cc (moves.kept_before.idle x entry, has))
      ];
      was = λ k n x at has. elim (beside_which bound new after k x at) [
        | inl task ↦ (let then' = (moves.dispatched k n x has).1 task in beside_task bound old before k x (moves.kept_before.bounded k x then') then')
        | inr entry ↦ absurd (cc (moves.kept_after.idle x entry, has))
      ];
    }

pub move_law : (bound : ℕ) (old new : ℕ → Option Keyed) (before after : List Keyed) (path : List Open) (next : ℕ)
    → MovesInKeys bound old new before after → IsOrdered (beside bound old before) path next
    → IsOrdered (beside bound new after) path next
move_law bound old new before after path next moves ordered =
    rename_keeps_order (beside bound old before) (beside bound new after) path next (moved_renames bound old new before after moves) ordered

-- the least task is the least one under its new id
pub move_least : (bound : ℕ) (old new : ℕ → Option Keyed) (before after : List Keyed) (id now : ℕ) (task : Keyed)
    → MovesInKeys bound old new before after → IsLeastInKeys (beside bound old before) id task
    → beside bound new after now ≡ Some task → IsLeastInKeys (beside bound new after) now task
move_least bound old new before after id now task moves is there =
    record {
      there = there;
      least = λ k x at. (let from = (moved_renames bound old new before after moves).from k x at in is.least from.0 x from.1);
    }
