use Rattle.watch_play.proofs.Does.{moment_does}
use Rattle.watch_play.proofs.laws.moment_does.Goals as goal

pub returns : goal.returns
returns g c = moment_does g.row.N.Denot
