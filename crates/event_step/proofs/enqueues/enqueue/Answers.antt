use Rattle.std.proofs.Common.{sym, subst, ◌∙◌}
use Rattle.event_prelude.specs.spec_state.Changes.{TakesLeg}
use Rattle.event_prelude.specs.spec_state.Room.{Enqueuer}
use Rattle.event_prelude.specs.spec_state.View.{View}
use Rattle.event_prelude.specs.Entering.{MayEnter}
use Rattle.event_step.proofs.Placing.{stalls_enqueue, wants_child, made_enqueue}
use Rattle.event_step.proofs.enqueues.enqueue.Goals as goal

pub returns-then-stalls : goal.returns-then-stalls
returns-then-stalls g c core task takes taps steps =
    stalls_enqueue g.row.N.Denot _ _ taps steps c.args.tile core c.args.id.0 c.args.leg.now task c.args.child
    c.requires.goes_on c.requires.asks takes
    c.pick-target.result c.pick-target.ensures.chosen (c.stalls.ensures.stalls.0 c.if-stalls.true) _
    c.requires.fresh

pub returns-then-is_err : goal.returns-then-is_err
returns-then-is_err g c core task takes taps steps =
    wants_child g.row.N.Denot _ _ taps steps c.args.tile core c.args.id.0 c.args.leg.now task c.args.child
    c.requires.goes_on c.requires.asks takes
    c.pick-target.result c.pick-target.ensures.chosen (λ stalls. absurd (cc (
      c.stalls.ensures.stalls.1 stalls,
      c.if-stalls.false,
    )))
    _ _ c.reserve.ensures.view (c.reserve.ensures.effect ∙ c.requires.fresh)

pub place-aborted-requires-clause-may_enter : goal.place-aborted-requires-clause-may_enter
place-aborted-requires-clause-may_enter g c =
    subst (λ (v : View). MayEnter v c.pick-target.result (Enqueuer c.args.id.0)) (sym c.reserve.ensures.view)
    (c.stalls.ensures.granted c.if-stalls.false)

pub returns : goal.returns
returns g c core task takes taps steps =
    let same = c.reserve.ensures.view in
    let ready = subst (λ (v : View). TakesLeg v c.args.tile core c.args.leg.now c.args.id.0 task) (sym same)
    takes in
    made_enqueue g.row.N.Denot _ _ taps steps c.args.tile core c.args.id.0 c.args.leg.now task c.args.child
    c.requires.goes_on c.requires.asks takes
    c.pick-target.result c.pick-target.ensures.chosen (λ stalls. absurd (cc (
      c.stalls.ensures.stalls.1 stalls,
      c.if-stalls.false,
    )))
    c.pick-target.ensures.inside _ same c.place-aborted.result _ _ _ c.record_of.result
    (c.place-aborted.ensures c.args.tile core task ready) c.serving_placed.ensures c.record_of.ensures
