use Rattle.std.proofs.Common.{ap, sym, subst, ◌∙◌}
use Rattle.std.specs.Prelude.{IfSome, is_some}
use Rattle.event_basis.specs.spec_state.Least.{IsLeast}
use Rattle.event_basis.proofs.Proved.{limit_ends, untrapped_goes_on}
use Rattle.event_prelude.proofs.ending.end_with.Goals as goal

pub returns-in-Some-clause-some : goal.returns-in-Some-clause-some
returns-in-Some-clause-some g c =
    limit_ends c.args.state.now.view c.in-Some.field-0
    (subst (λ o. IfSome o (IsLeast c.args.state.now.view)) c.in-Some.is c.requires.some)
    (c.is_at_limit.ensures.0 c.if-is_at_limit.true)

pub returns-in-None-trapped_in-clause-none : goal.returns-in-None-trapped_in-clause-none
returns-in-None-trapped_in-clause-none g c none =
    untrapped_goes_on c.args.state.now.view c.in-Some-2.stands
    (subst (λ o. IfSome o (IsLeast c.args.state.now.view)) c.in-Some-2.is c.requires.some)
    (c.trapped_in.ensures.none (ap is_some c.in-None-trapped_in.is))
    (λ few. absurd (cc (sym (c.is_at_limit.ensures.1 few) ∙ c.if-is_at_limit.false)))
