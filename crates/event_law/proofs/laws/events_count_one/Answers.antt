use Rattle.event_law.proofs.Histories.{events_count_one}
use Rattle.event_law.proofs.laws.events_count_one.Goals as goal

pub returns : goal.returns
returns g c = events_count_one g.row.N.Denot
