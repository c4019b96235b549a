use Rattle.rounds_law.proofs.Advances.{forced_gets_on}
use Rattle.rounds_law.proofs.laws.forced_gets_on.Goals as goal

pub returns : goal.returns
returns g c = forced_gets_on g.row.N.Denot
