use Rattle.event_law.proofs.Few.{least_events_are_few}
use Rattle.event_law.proofs.laws.least_events_are_few.Goals as goal

pub returns : goal.returns
returns g c = least_events_are_few g.row.N.Denot
