use Rattle.watch_play.proofs.Plays.{story_plays}
use Rattle.watch_play.proofs.laws.story_plays.Goals as goal

pub returns : goal.returns
returns g c = story_plays g.row.N.Denot
