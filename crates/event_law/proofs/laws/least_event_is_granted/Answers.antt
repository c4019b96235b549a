use Rattle.event_law.proofs.Granted.{least_event_is_granted}
use Rattle.event_law.proofs.laws.least_event_is_granted.Goals as goal

pub returns : goal.returns
returns g c = least_event_is_granted g.row.N.Denot
