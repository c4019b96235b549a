use Rattle.event_law.proofs.Given.{next_event_is_given}
use Rattle.event_law.proofs.laws.next_event_is_given.Goals as goal

pub returns : goal.returns
returns g c = next_event_is_given g.row.N.Denot
