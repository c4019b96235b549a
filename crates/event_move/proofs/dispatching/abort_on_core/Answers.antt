use Rattle.std.proofs.Common.{ap}
use Rattle.std.specs.Prelude.{is_some}
use Rattle.event_prelude.specs.spec_state.Effects.{EffectValue}
use Rattle.event_prelude.specs.event_def.Events.{aborts_latest}
use Rattle.event_prelude.proofs.Below.event_basis.Proved.{held_has_task, sound_by_key}
use Rattle.event_move.proofs.dispatching.abort_on_core.Goals as goal

pub unreachable-requires : goal.unreachable-requires
unreachable-requires g c =
    let on = held_has_task g.N.Naming.image c.args.state.now.view c.requires.sound c.args.tile c.requires.tile c.requires.held in
    c.latest_on_core.ensures.none.0 (ap is_some c.in-None.is) on.1 on.2 (on.0, on.3)

pub returns-clause-frees : goal.returns-clause-frees
returns-clause-frees g c =
    let keyed = sound_by_key g.N.Naming.image c.args.state.now.view c.requires.sound in
    let latest = c.in-Some.ensures.some in
    let aborts = c.abort.ensures.aborts keyed.0 keyed.1 in (
      aborts_latest c.abort.result c.in-Some.latest.0 latest.0 c.abort.new.state.view c.requires.held latest.1 aborts.0,
      (aborts.1, ap (λ (e : EffectValue). e.spilled) c.abort.ensures.effect),
    )
