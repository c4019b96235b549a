use Rattle.std.proofs.Common.{Some, refl, sym, ap, subst, ◌∙◌}
use Rattle.trace_tap.specs.declared.record.Deed.TheVariants.{Access}
use Rattle.event_prelude.specs.spec_state.View.{View}
use Rattle.event_prelude.specs.spec_state.Changes.{TakesLeg}
use Rattle.event_prelude.specs.event_def.Trace.{record_of}
use Rattle.event_step.proofs.Stepping.{made_quietly, wants_quietly}
use Rattle.event_step.proofs.accesses.store.Goals as goal

pub returns-then-is_err : goal.returns-then-is_err
returns-then-is_err g c placers core task takes taps steps =
    wants_quietly g.row.N.Denot _ placers taps steps c.args.tile core c.args.id.0 c.args.leg.now task _
    c.requires.goes_on c.requires.asks takes (λ never. never) tt _ _ c.reserve_access.ensures.view
    (c.reserve_access.ensures.effect ∙ c.requires.fresh)

pub returns : goal.returns
returns g c placers core task takes taps steps =
    let same = c.reserve_access.ensures.view in
    let ready = subst (λ (v : View). TakesLeg v c.args.tile core c.args.leg.now c.args.id.0 task) (sym same) takes in
    let stores = c.store_covered-aborted.ensures c.args.tile core task ready in
    made_quietly g.row.N.Denot _ placers taps steps c.args.tile core c.args.id.0 c.args.leg.now task _
    c.requires.goes_on c.requires.asks takes (λ never. never) _ same c.store_covered-aborted.result _ _
    c.record_of.result ((stores.0, refl), (stores.1, stores.2))
    (c.record_of.ensures ∙ ap (λ line. record_of Access c.args.tile (Some line) c.store_covered-aborted.result
    c.store_covered-aborted.new.state.view)
    c.line_of-line.ensures)
