-- What is left up to the next commit or the end, by how the least task stands.
use Rattle.std.proofs.Common.{ℕ, ◌+◌, ◌-◌, ◌≡◌, ◌≤◌, sym, ap, subst, ◌∙◌, arith}
use Rattle.event_def.specs.task_law.Advance.{Standing, rest_of_way}
use Rattle.event_def.specs.task_law.Advance as standing
use Rattle.event_def.specs.spec_state.declared.task.Status.{Status}
use Rattle.event_def.specs.spec_state.declared.task.Status.TheVariants.{Idle, Running, Trapped, Finished}
use Rattle.event_def.specs.spec_state.declared.task.Task.{Task}
use Rattle.event_def.specs.spec_state.View.{View}
use Rattle.event_def.specs.spec_state.Least.{Queued, Spilled_at, IsLeastTask, IsLeastSpilled}
use Rattle.spec_law.proofs.Proved.{least_is_one}
use Rattle.event_def.specs.Advancing.{HasRest, StandsSo}
use Rattle.event_def.specs.End.{IsOver}
use Rattle.event_law.proofs.Ends.{one_least}

-- the most that is left where the least task has this status, with so many instructions used
abbrev pub most_left : ℕ → Status → ℕ → ℕ
most_left budget Idle used = budget + 3
most_left budget (Running core) used = budget - used + 2
most_left budget (Trapped core cause) used = 1
most_left budget Finished used = 1

-- it is at least 1
some_left : (budget used : ℕ) (status : Status) → 1 ≤ most_left budget status used
some_left budget used Idle = omega arith
some_left budget used (Running core) = omega arith
some_left budget used (Trapped core cause) = omega arith
some_left budget used Finished = omega arith

-- the least task isn't both queued and spilled
pub not_both : (view : View) (id tile : ℕ) (task : Task) → IsLeastTask view id task → IsLeastSpilled view tile → ⊥
not_both view id tile task least spilled =
    let same : Queued task.tile least.place ≡ Spilled_at tile spilled.place =
    least_is_one view (Queued task.tile least.place) (Spilled_at tile spilled.place) least.least spilled.least in
    absurd (cc (same))

module _ (view : View) (id : ℕ) (task : Task) (least : IsLeastTask view id task) where
  -- no standing of the view leaves more than the least task's status says
  by_standing : (stands : Standing) → StandsSo view stands
      → rest_of_way view.settings.budget stands ≤ most_left view.settings.budget task.status task.core.used
  by_standing standing.Over so = some_left view.settings.budget task.core.used task.status
  by_standing standing.Finished so =
      let same = one_least view (least_is_one view) so.1 id so.2 task so.3 least in
      let is : task.status ≡ Finished = ap (λ (t : Task). t.status) (sym same) ∙ so.4 in
      subst (λ s. 1 ≤ most_left view.settings.budget s task.core.used) (sym is) (omega arith)
  by_standing (standing.Running used) so =
      let same = one_least view (least_is_one view) so.1 id so.2 task so.4 least in
      let is : task.status ≡ Running so.3 = ap (λ (t : Task). t.status) (sym same) ∙ so.5 in
      let uses : task.core.used ≡ used = ap (λ (t : Task). t.core.used) (sym same) ∙ so.6 in
      subst (λ s. view.settings.budget - used + 2 ≤ most_left view.settings.budget s task.core.used) (sym is) (omega (arith, uses))
  by_standing standing.Idle so =
      let same = one_least view (least_is_one view) so.1 id so.2 task so.3 least in
      let is : task.status ≡ Idle = ap (λ (t : Task). t.status) (sym same) ∙ so.4 in
      subst (λ s. view.settings.budget + 3 ≤ most_left view.settings.budget s task.core.used) (sym is) (omega arith)
  by_standing standing.Spilled so = absurd (not_both view id so.1 task least so.2)

  -- no more is left than the least task's status says
  pub at_most : (left : ℕ) → HasRest view left → left ≤ most_left view.settings.budget task.status task.core.used
  at_most left has =
      subst (λ n. n ≤ most_left view.settings.budget task.status task.core.used) (sym has.left_is) (by_standing has.stands has.stands_so)

  -- where the run isn't over and the least task is idle, that many are left
  idle_left : (IsOver view → ⊥) → task.status ≡ Idle → (stands : Standing) → StandsSo view stands
      → view.settings.budget + 3 ≤ rest_of_way view.settings.budget stands
  idle_left goes_on idle standing.Over so = absurd (goes_on so)
  idle_left goes_on idle standing.Finished so =
      let same = one_least view (least_is_one view) so.1 id so.2 task so.3 least in
      let clash : Finished ≡ Idle = sym so.4 ∙ (ap (λ (t : Task). t.status) same ∙ idle) in
      absurd (cc (clash))
  idle_left goes_on idle (standing.Running used) so =
      let same = one_least view (least_is_one view) so.1 id so.2 task so.4 least in
      let clash : Running so.3 ≡ Idle = sym so.5 ∙ (ap (λ (t : Task). t.status) same ∙ idle) in
      absurd (cc (clash))
  idle_left goes_on idle standing.Idle so = omega arith
  idle_left goes_on idle standing.Spilled so = absurd (not_both view id so.1 task least so.2)

  pub idle_at_least : (IsOver view → ⊥) → task.status ≡ Idle → (left : ℕ) → HasRest view left
      → view.settings.budget + 3 ≤ left
  idle_at_least goes_on idle left has =
      subst (λ n. view.settings.budget + 3 ≤ n) (sym has.left_is) (idle_left goes_on idle has.stands has.stands_so)

  -- and so where it runs
  running_left : (core : ℕ) → (IsOver view → ⊥) → task.status ≡ Running core → (stands : Standing)
      → StandsSo view stands
      → view.settings.budget - task.core.used + 2 ≤ rest_of_way view.settings.budget stands
  running_left core goes_on runs standing.Over so = absurd (goes_on so)
  running_left core goes_on runs standing.Finished so =
      let same = one_least view (least_is_one view) so.1 id so.2 task so.3 least in
      let clash : Finished ≡ Running core = sym so.4 ∙ (ap (λ (t : Task). t.status) same ∙ runs) in
      absurd (cc (clash))
  running_left core goes_on runs (standing.Running used) so =
      let same = one_least view (least_is_one view) so.1 id so.2 task so.4 least in
      let uses : task.core.used ≡ used = ap (λ (t : Task). t.core.used) (sym same) ∙ so.6 in
      omega (arith, uses)
  running_left core goes_on runs standing.Idle so =
      let same = one_least view (least_is_one view) so.1 id so.2 task so.3 least in
      let clash : Idle ≡ Running core = sym so.4 ∙ (ap (λ (t : Task). t.status) same ∙ runs) in
      absurd (cc (clash))
  running_left core goes_on runs standing.Spilled so = absurd (not_both view id so.1 task least so.2)

  pub running_at_least : (core : ℕ) → (IsOver view → ⊥) → task.status ≡ Running core → (left : ℕ) → HasRest view left
      → view.settings.budget - task.core.used + 2 ≤ left
  running_at_least core goes_on runs left has =
      subst (λ n. view.settings.budget - task.core.used + 2 ≤ n) (sym has.left_is) (running_left core goes_on runs has.stands has.stands_so)

module _ (view : View) (tile : ℕ) (spilled : IsLeastSpilled view tile) where
  -- where the run isn't over and the least task is spilled, at least the budget and 4 are left
  spilled_left : (IsOver view → ⊥) → (stands : Standing) → StandsSo view stands
      → view.settings.budget + 4 ≤ rest_of_way view.settings.budget stands
  spilled_left goes_on standing.Over so = absurd (goes_on so)
  spilled_left goes_on standing.Finished so = absurd (not_both view so.1 tile so.2 so.3 spilled)
  spilled_left goes_on (standing.Running used) so = absurd (not_both view so.1 tile so.2 so.4 spilled)
  spilled_left goes_on standing.Idle so = absurd (not_both view so.1 tile so.2 so.3 spilled)
  spilled_left goes_on standing.Spilled so = omega arith

  pub spilled_at_least : (IsOver view → ⊥) → (left : ℕ) → HasRest view left → view.settings.budget + 4 ≤ left
  spilled_at_least goes_on left has =
      subst (λ n. view.settings.budget + 4 ≤ n) (sym has.left_is) (spilled_left goes_on has.stands has.stands_so)
