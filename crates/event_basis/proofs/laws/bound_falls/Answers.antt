use Rattle.event_basis.proofs.Falling.{rest_falls}
use Rattle.event_basis.proofs.laws.bound_falls.Goals as goal

pub returns : goal.returns
returns g c = rest_falls g.row.N.Denot
