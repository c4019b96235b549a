use Rattle.event_law.proofs.Histories.{histories_are_runs}
use Rattle.event_law.proofs.laws.histories_are_runs.Goals as goal

pub returns : goal.returns
returns g c = histories_are_runs g.row.N.Denot
