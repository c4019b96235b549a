use Rattle.std.proofs.Common.{ap, map, ◌∙◌}
use Rattle.event_prelude.specs.spec_state.Effects.{EffectValue}
use Rattle.event_prelude.specs.spec_state.StateValue.{StateValue}
use Rattle.event_prelude.specs.spec_state.Told.{told_spilled}
use Rattle.event_move.proofs.Moved.{coalesce_runs_out, coalesced}
use Rattle.event_move.proofs.spilling.make_coalesce.Goals as goal

pub returns-in-Ok : goal.returns-in-Ok
returns-in-Ok g c =
    let ok = c.in-Ok.ensures.ok in
    coalesced g.row.N.Denot c.args.state.now.view c.requires.goes_on c.args.tile c.requires.some.0 c.requires.some.1
    c.coalesce.new.state.effect c.coalesce.new.state.view c.record_of.result ok.0
    (ok.2 ∙ ap (λ (e : EffectValue). record e { spilled = map (told_spilled c.args.state.now.view) ok.0.ids })
    c.requires.fresh) c.record_of.ensures

pub returns-in-Err : goal.returns-in-Err
returns-in-Err g c =
    coalesce_runs_out g.row.N.Denot c.args.state.now.view c.requires.goes_on c.args.tile c.requires.some.0
    c.requires.some.1 c.coalesce.new.state.effect c.coalesce.new.state.view
    (ap (λ (s : StateValue). s.view) c.in-Err.ensures.err)
    (ap (λ (s : StateValue). s.effect) c.in-Err.ensures.err ∙ c.requires.fresh)
