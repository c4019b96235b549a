use Rattle.outcome_law.proofs.Scripts.{play_is_one}
use Rattle.outcome_law.proofs.laws.play_is_one.Goals as goal

pub returns : goal.returns
returns g c = play_is_one g.row.N.Denot
