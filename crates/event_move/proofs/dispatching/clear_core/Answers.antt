use Rattle.std.proofs.Common.{ap}
use Rattle.event_prelude.specs.spec_state.Effects.{EffectValue}
use Rattle.event_prelude.specs.event_def.Events.{has_free}
use Rattle.event_move.proofs.dispatching.clear_core.Goals as goal

pub returns-in-Some-clause-frees : goal.returns-in-Some-clause-frees
returns-in-Some-clause-frees g c = (
  has_free c.in-Some.field-0 c.in-Some.ensures.some.free,
  (ap (λ (e : EffectValue). e.back) c.requires.fresh, ap (λ (e : EffectValue). e.spilled) c.requires.fresh),
)
