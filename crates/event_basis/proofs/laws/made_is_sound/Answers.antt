use Rattle.event_basis.proofs.Made.{makes_stays_sound}
use Rattle.event_basis.proofs.laws.made_is_sound.Goals as goal

pub returns : goal.returns
returns g c = makes_stays_sound g.row.N.Denot
