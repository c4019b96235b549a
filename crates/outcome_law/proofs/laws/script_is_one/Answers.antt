use Rattle.outcome_law.proofs.Opened.{script_is_one}
use Rattle.outcome_law.proofs.laws.script_is_one.Goals as goal

pub returns : goal.returns
returns g c = script_is_one g.row.N.Denot
