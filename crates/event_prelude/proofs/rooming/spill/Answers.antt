use Rattle.std.proofs.Common.{ap}
use Rattle.event_basis.specs.spec_state.Effects.{EffectValue}
use Rattle.event_prelude.proofs.rooming.spill.Goals as goal

pub returns-clause-moves : goal.returns-clause-moves
returns-clause-moves g c =
    let ok = c.in-Ok.ensures.ok in (ok.0, ap (λ (e : EffectValue). e.spilled) ok.2)
