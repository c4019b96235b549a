use Rattle.std.proofs.Common.{length, ap, subst}
use Rattle.spec_state.specs.Fronts.{IsFirstSpilled}
use Rattle.spec_state.specs.StateValue.{StateValue}
use Rattle.spec_state.proofs.Fronts.{first_is_spilled}
use Rattle.spec_state.proofs.state.State.first_front.Goals as goal

pub returns-in-Some-clause-some : goal.returns-in-Some-clause-some
returns-in-Some-clause-some g c =
    subst (λ bs. IsFirstSpilled bs (length bs) c.in-Some.tile c.in-Some.key.now) (ap (λ (v : StateValue). v.view.blocks) c.self.view_is)
    (first_is_spilled _ c.in-Some.tile c.in-Some.key.now c.in-Some.ensures.some)
