-- The rests of a view are one number.
use Rattle.std.proofs.Common.{ℕ, ◌+◌, ◌-◌, ◌≡◌, ◌≤◌, subst, ◌∙◌, arith}
use Rattle.event_def.specs.task_law.Advance.{Standing, rest_of_way}
use Rattle.event_def.specs.task_law.Advance as standing
use Rattle.event_def.specs.spec_state.View.{View}
use Rattle.event_def.specs.Advancing.{HasRest, StandsSo}
use Rattle.event_def.specs.End.{IsOver}
use Rattle.event_law.specs.Laws.{RestIsOne}
use Rattle.event_law.proofs.Falls.Rest.{at_most, idle_at_least, running_at_least, spilled_at_least, most_left}
use Rattle.event_law.proofs.Rests.Rest.{rest_is_bounded}

-- something is left, however it stands
pub some_rest : (budget : ℕ) (stands : Standing) → 1 ≤ rest_of_way budget stands
some_rest budget standing.Over = omega arith
some_rest budget standing.Finished = omega arith
some_rest budget (standing.Running used) = omega arith
some_rest budget standing.Idle = omega arith
some_rest budget standing.Spilled = omega arith

-- of a run that is over 1 is left
over_left : (view : View) → IsOver view → (stands : Standing) → StandsSo view stands
    → rest_of_way view.settings.budget stands ≤ 1
over_left view over standing.Over so = omega arith
over_left view over standing.Finished so = absurd (so.0 over)
over_left view over (standing.Running used) so = absurd (so.0 over)
over_left view over standing.Idle so = absurd (so.0 over)
over_left view over standing.Spilled so = absurd (so.0 over)

-- no other standing of the view leaves another number
by_standing : (view : View) (stands : Standing) → StandsSo view stands → (left : ℕ) → HasRest view left
    → rest_of_way view.settings.budget stands ≡ left
by_standing view standing.Over so left has =
    let low = some_rest view.settings.budget has.stands in
    let high = over_left view so has.stands has.stands_so in
    let is = has.left_is in
    omega (arith, low, high, is)
by_standing view standing.Finished so left has =
    let low = some_rest view.settings.budget has.stands in
    let high : left ≤ 1 =
    subst (λ status. left ≤ most_left view.settings.budget status so.2.core.used) so.4 (at_most view so.1 so.2 so.3 left has) in
    let is = has.left_is in
    omega (arith, low, high, is)
by_standing view (standing.Running used) so left has =
    let low = running_at_least view so.1 so.2 so.4 so.3 so.0 so.5 left has in
    let high : left ≤ view.settings.budget - so.2.core.used + 2 =
    subst (λ status. left ≤ most_left view.settings.budget status so.2.core.used) so.5 (at_most view so.1 so.2 so.4 left has) in
    let same = so.6 in
    omega (arith, low, high, same)
by_standing view standing.Idle so left has =
    let low = idle_at_least view so.1 so.2 so.3 so.0 so.4 left has in
    let high : left ≤ view.settings.budget + 3 =
    subst (λ status. left ≤ most_left view.settings.budget status so.2.core.used) so.4 (at_most view so.1 so.2 so.3 left has) in
    omega (arith, low, high)
by_standing view standing.Spilled so left has =
    let low = spilled_at_least view so.1 so.2 so.0 left has in
    let high = rest_is_bounded view left has in
    omega (arith, low, high)

-- each of two rests is what the standing of the other leaves
pub rest_is_one : RestIsOne
rest_is_one view left other has too = has.left_is ∙ by_standing view has.stands has.stands_so other too
