use Rattle.std.proofs.Common.{subst}
use Rattle.spec_state.specs.StateValue.{StateValue}
use Rattle.spec_state.specs.Stored.{IsStored}
use Rattle.spec_state.proofs.state.State.is_stored.Goals as goal

pub returns : goal.returns
returns g c = subst (λ (v : StateValue). IsStored g.N.Naming.image.data_size v.view) c.self.view_is c.self.invariant.4
