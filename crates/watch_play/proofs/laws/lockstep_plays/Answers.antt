use Rattle.watch_play.proofs.Plays.{lockstep_plays}
use Rattle.watch_play.proofs.laws.lockstep_plays.Goals as goal

pub returns : goal.returns
returns g c = lockstep_plays g.row.N.Denot
