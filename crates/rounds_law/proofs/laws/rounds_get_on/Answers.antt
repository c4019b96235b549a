use Rattle.rounds_law.proofs.Owed.{rounds_get_on}
use Rattle.rounds_law.proofs.laws.rounds_get_on.Goals as goal

pub returns : goal.returns
returns g c = rounds_get_on g.row.N.Denot
