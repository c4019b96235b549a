use Rattle.std.proofs.Common.{sym, subst}
use Rattle.spec_state.specs.Least.{IsHeir}
use Rattle.spec_state.proofs.Heirs.{heir_in}
use Rattle.spec_state.proofs.state.State.heir.Goals as goal

pub returns : goal.returns
returns g c =
    subst (IsHeir c.args.self.now.view) (sym c.dispatched_of.ensures)
    (heir_in g.N.Naming.image.data_size c.args.self.now.view c.least.result c.is_stored.ensures c.least.ensures.some c.least.ensures.none)
