use Rattle.fractal_sim.proofs.Once.{script_calls_end_well}
use Rattle.fractal_sim.proofs.laws.script_calls_end_well.Goals as goal

pub returns : goal.returns
returns c = script_calls_end_well
