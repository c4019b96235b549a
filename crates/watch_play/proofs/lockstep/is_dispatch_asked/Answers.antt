use Rattle.std.proofs.Common.{ap, subst, sym}
use Rattle.std.specs.Prelude.{◌↔◌, IsTrue, is_some}
use Rattle.watch_counts.specs.spec_state.View.{View}
use Rattle.watch_counts.specs.step_script.declared.act.Act.TheVariants as acts
use Rattle.watch_play.specs.Courses.{IsAskedInRound}
use Rattle.watch_play.proofs.Chosen.{core_asked, least_asked}
use Rattle.watch_play.proofs.lockstep.is_dispatch_asked.Goals as goal

pub returns-in-Some : goal.returns-in-Some
returns-in-Some g c =
    let found = c.has_idle in
    subst (λ (v : View). IsTrue found.result ↔ IsAskedInRound v (acts.Dispatch c.args.tile)) c.state-state.ensures.view
    (core_asked c.state-state.result.now.view c.args.tile c.in-Some.field-0 c.in-Some.ensures.some found.result
    found.ensures.some found.ensures.none)

pub returns-in-None : goal.returns-in-None
returns-in-None g c =
    let found = c.least_in in
    let view = c.state-state.result.now.view in
    let tested : IsTrue c.is_some.result ↔ IsAskedInRound view (acts.Dispatch c.args.tile) =
    subst (λ b. IsTrue b ↔ IsAskedInRound view (acts.Dispatch c.args.tile)) (sym c.is_some.ensures)
    (least_asked view c.args.tile (c.free_core.ensures.none.0 (ap is_some c.in-None.is)) found.result
    found.ensures.some found.ensures.none) in
    subst (λ (v : View). IsTrue c.is_some.result ↔ IsAskedInRound v (acts.Dispatch c.args.tile))
    c.state-state.ensures.view tested
