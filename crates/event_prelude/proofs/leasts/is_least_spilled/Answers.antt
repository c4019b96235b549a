use Rattle.std.proofs.Common.{ap}
use Rattle.std.specs.Prelude.{is_some}
use Rattle.event_basis.proofs.Proved.{none_is_spilled}
use Rattle.event_prelude.proofs.Standing.{tests_spilled}
use Rattle.event_prelude.proofs.leasts.is_least_spilled.Goals as goal

pub returns-in-Some : goal.returns-in-Some
returns-in-Some g c =
    tests_spilled c.args.state.now.view c.in-Some.least c.in-Some.ensures.some c.is_spilled_at.result c.args.tile
    c.is_spilled_at.ensures

pub returns-in-None : goal.returns-in-None
returns-in-None g c =
    let all = c.least.ensures.none.0 (ap is_some c.in-None.is) in
    (λ no. absurd (cc (no)), λ least. absurd (none_is_spilled c.args.state.now.view c.args.tile all least))
