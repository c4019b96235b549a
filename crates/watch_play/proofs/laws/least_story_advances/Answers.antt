use Rattle.watch_play.proofs.Leaving.{least_story_advances}
use Rattle.watch_play.proofs.laws.least_story_advances.Goals as goal

pub returns : goal.returns
returns g c = least_story_advances g.row.N.Denot
