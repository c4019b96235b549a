use Rattle.event_law.proofs.Histories.{events_join}
use Rattle.event_law.proofs.laws.events_join.Goals as goal

pub returns : goal.returns
returns g c = events_join g.row.N.Denot
