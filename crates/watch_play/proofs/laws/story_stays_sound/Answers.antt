use Rattle.watch_play.proofs.Leaving.{story_stays_sound}
use Rattle.watch_play.proofs.laws.story_stays_sound.Goals as goal

pub returns : goal.returns
returns g c = story_stays_sound g.row.N.Denot
