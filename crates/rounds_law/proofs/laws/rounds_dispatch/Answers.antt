use Rattle.rounds_law.proofs.Starving.{rounds_dispatch}
use Rattle.rounds_law.proofs.laws.rounds_dispatch.Goals as goal

pub returns : goal.returns
returns g c = rounds_dispatch g.row.N.Denot
