use Rattle.std.proofs.Common.{rules, ℕ, subst}
use Rattle.spec_state.specs.declared.task.Task.{Task}
use Rattle.spec_state.specs.StateValue.{StateValue}
use Rattle.spec_state.specs.Queries.{IsQueued}
use Rattle.spec_state.specs.Fronts.{IsFirstQueued}
use Rattle.spec_state.proofs.Leasts.{first_queued, none_queued}
use Rattle.spec_state.proofs.state.State.first_queued.Goals as goal

pub returns-in-Some-clause-some : goal.returns-in-Some-clause-some
returns-in-Some-clause-some g c =
    subst (λ (v : StateValue). (task : Task) × IsFirstQueued v.view c.in-Some.id task) c.self.view_is
    (first_queued g.N.Naming.image.data_size _ _ _ c.self.invariant.4 _ c.self.invariant.5 c.is_in_order.ensures.order c.in-Some.id (search rules))

pub returns-in-None-clause-none : goal.returns-in-None-clause-none
returns-in-None-clause-none g c none =
    subst (λ (v : StateValue). (tile id : ℕ) → IsQueued v.view tile id → ⊥) c.self.view_is
    (none_queued g.N.Naming.image.data_size _ _ _ c.self.invariant.4 _ c.self.invariant.5 (search rules))
