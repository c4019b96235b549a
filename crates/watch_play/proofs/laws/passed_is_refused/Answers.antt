use Rattle.watch_play.proofs.InRound.{passed_is_refused}
use Rattle.watch_play.proofs.laws.passed_is_refused.Goals as goal

pub returns : goal.returns
returns g c = passed_is_refused g.row.N.Denot
