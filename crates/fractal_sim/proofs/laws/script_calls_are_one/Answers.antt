use Rattle.fractal_sim.proofs.Twice.{script_calls_are_one}
use Rattle.fractal_sim.proofs.laws.script_calls_are_one.Goals as goal

pub returns : goal.returns
returns c = script_calls_are_one
