use Rattle.watch_play.proofs.Twice.{end_is_one}
use Rattle.watch_play.proofs.laws.end_is_one.Goals as goal

pub returns : goal.returns
returns g c = end_is_one g.row.N.Denot
