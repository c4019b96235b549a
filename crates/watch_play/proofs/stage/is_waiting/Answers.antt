use Rattle.std.proofs.Common.{inl, inr, refl, subst}
use Rattle.watch_counts.specs.spec_state.Least.{IsLeast}
use Rattle.watch_counts.specs.spec_state.declared.task.Where.TheVariants as where_
use Rattle.watch_play.proofs.Waiting.{no_wait, not_waiting}
use Rattle.watch_play.proofs.stage.is_waiting.Goals as goal

pub returns-in-Idle : goal.returns-in-Idle
returns-in-Idle c view on least =
    let is : IsLeast view (where_.Idle c.in-Idle.field-0) = subst (IsLeast view) c.in-Idle.is least in
    ((λ t. inl (on, c.in-Idle.field-0.0, is.0, is.1, is.2)), λ w. refl)

pub returns-in-Spilled : goal.returns-in-Spilled
returns-in-Spilled c view on least =
    let is : IsLeast view (where_.Spilled c.in-Spilled.field-0) = subst (IsLeast view) c.in-Spilled.is least in
    ((λ t. inr (on, c.in-Spilled.field-0, is)), λ w. refl)

pub returns-in-Running : goal.returns-in-Running
returns-in-Running c view on least =
    let is : IsLeast view (where_.Running c.in-Running.field-0) = subst (IsLeast view) c.in-Running.is least in
    no_wait view (not_waiting view c.in-Running.field-0.0 is.0 is.2 (λ idle. absurd (cc (is.3, idle))))

pub returns-in-Trapped : goal.returns-in-Trapped
returns-in-Trapped c view on least =
    let is : IsLeast view (where_.Trapped c.in-Trapped.field-0) = subst (IsLeast view) c.in-Trapped.is least in
    no_wait view (not_waiting view c.in-Trapped.field-0.0 is.0 is.3 (λ idle. absurd (cc (is.4, idle))))

pub returns-in-Finished : goal.returns-in-Finished
returns-in-Finished c view on least =
    let is : IsLeast view (where_.Finished c.in-Finished.field-0) = subst (IsLeast view) c.in-Finished.is least in
    no_wait view (not_waiting view c.in-Finished.field-0.0 is.0 is.1 (λ idle. absurd (cc (is.2, idle))))
