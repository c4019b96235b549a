use Rattle.std.proofs.Common.{rules, refl, ap}
use Rattle.std.specs.Prelude.{is_some}
use Rattle.spec_state.specs.View.{queue_at}
use Rattle.spec_state.specs.Least.{IsAllCommitted}
use Rattle.spec_state.proofs.Entered.{held_at}
use Rattle.spec_state.proofs.Leasts.{least_spilled, all_committed, not_all_queued, not_all_spilled, stands_alone}
use Rattle.spec_state.proofs.Leasts.{stands_before, spilled_before}
use Rattle.spec_state.proofs.state.State.least.Goals as goal

pub returns-in-None-None-clause-none : goal.returns-in-None-None-clause-none
returns-in-None-None-clause-none g c =
    let all : IsAllCommitted c.args.self.now.view = all_committed c.args.self.now.view (c.first_queued.ensures.none (ap is_some c.in-None-None.is-0)) (c.first_front.ensures.none (ap is_some c.in-None-None.is-1)) in
    (λ none. all, λ committed. refl)

pub returns-in-None-Some-clause-some : goal.returns-in-None-Some-clause-some
returns-in-None-Some-clause-some g c =
    least_spilled c.args.self.now.view c.in-None-Some.front.tile c.in-None-Some.front.key.now c.in-None-Some.ensures.some
    (λ t p k x at. absurd (c.first_queued.ensures.none (ap is_some c.in-None-Some.is-0) t k (held_at (queue_at c.args.self.now.view t) p k at.queued)))

pub returns-in-None-Some-clause-none : goal.returns-in-None-Some-clause-none
returns-in-None-Some-clause-none g c =
    (λ no. absurd (cc (no)), λ all. absurd (not_all_spilled c.args.self.now.view c.in-None-Some.front.tile c.in-None-Some.front.key.now c.in-None-Some.ensures.some all))

pub returns-in-Some-None-clause-some : goal.returns-in-Some-None-clause-some
returns-in-Some-None-clause-some g c =
    stands_alone c.args.self.now.view c.standing.result c.in-Some-None.id c.in-Some-None.ensures.some c.task.result.now c.task.ensures c.standing.ensures (c.in-Some-None.ensures'.none refl)

pub returns-in-Some-None-clause-none : goal.returns-in-Some-None-clause-none
returns-in-Some-None-clause-none g c =
    (λ no. absurd (cc (no)), λ all. absurd (not_all_queued c.args.self.now.view c.in-Some-None.id.0 c.in-Some-None.ensures.some.0 c.in-Some-None.ensures.some.1 all))

pub returns-then-is_lt-clause-some : goal.returns-then-is_lt-clause-some
returns-then-is_lt-clause-some g c =
    spilled_before c.args.self.now.view c.in-Some-Some.id.0 c.in-Some-Some.ensures.some c.task-task.result.now c.task-task.ensures c.in-Some-Some.front.tile c.in-Some-Some.front.key.now
    c.in-Some-Some.ensures'.some (search rules)

pub returns-then-is_lt-clause-none : goal.returns-then-is_lt-clause-none
returns-then-is_lt-clause-none g c =
    (λ no. absurd (cc (no)), λ all. absurd (not_all_queued c.args.self.now.view c.in-Some-Some.id.0 c.in-Some-Some.ensures.some.0 c.in-Some-Some.ensures.some.1 all))

pub returns-else-is_lt-clause-some : goal.returns-else-is_lt-clause-some
returns-else-is_lt-clause-some g c =
    stands_before c.args.self.now.view c.standing-else-is_lt.result c.in-Some-Some.id c.in-Some-Some.ensures.some c.task-task.result.now c.task-task.ensures c.standing-else-is_lt.ensures
    c.in-Some-Some.front.tile c.in-Some-Some.front.key.now c.in-Some-Some.ensures'.some (search rules)

pub returns-else-is_lt-clause-none : goal.returns-else-is_lt-clause-none
returns-else-is_lt-clause-none g c =
    (λ no. absurd (cc (no)), λ all. absurd (not_all_queued c.args.self.now.view c.in-Some-Some.id.0 c.in-Some-Some.ensures.some.0 c.in-Some-Some.ensures.some.1 all))
