use Rattle.watch_play.proofs.Leaving.{least_story_is_run}
use Rattle.watch_play.proofs.laws.least_story_is_run.Goals as goal

pub returns : goal.returns
returns g c = least_story_is_run g.row.N.Denot
