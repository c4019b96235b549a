use Rattle.event_law.proofs.Falls.Falls.{advances_fall}
use Rattle.event_law.proofs.laws.advances_fall.Goals as goal

pub returns : goal.returns
returns g c = advances_fall g.row.N.Denot
