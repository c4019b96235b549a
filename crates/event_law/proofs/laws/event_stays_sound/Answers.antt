use Rattle.event_law.proofs.Keeps.Events.{event_stays_sound}
use Rattle.event_law.proofs.laws.event_stays_sound.Goals as goal

pub returns : goal.returns
returns g c = event_stays_sound g.row.N.Denot
