use Rattle.watch_play.proofs.Twice.{story_is_one}
use Rattle.watch_play.proofs.laws.story_is_one.Goals as goal

pub returns : goal.returns
returns g c = story_is_one g.row.N.Denot
