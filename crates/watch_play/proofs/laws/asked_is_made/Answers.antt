use Rattle.watch_play.proofs.InRound.{asked_is_made}
use Rattle.watch_play.proofs.laws.asked_is_made.Goals as goal

pub returns : goal.returns
returns g c = asked_is_made g.row.N.Denot
