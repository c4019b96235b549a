-- What is left up to and with the next commit, or up to the end, is bounded.
use Rattle.std.proofs.Common.{◌+◌, ◌≤◌, subst, sym}
use Rattle.event_def.proofs.Below.task_law.Proved.{rest_bounded}
use Rattle.event_law.specs.Laws.{RestIsBounded}

-- it is what a standing leaves, which is bounded for each standing
pub rest_is_bounded : RestIsBounded
rest_is_bounded view left has =
    subst (λ n. n ≤ view.settings.budget + 4) (sym has.left_is) (rest_bounded view.settings.budget has.stands)
