use Rattle.fractal_vt.proofs.Renumbered.{stay_apart}
use Rattle.fractal_vt.proofs.laws.numbers_stay_apart.Goals as goal

pub returns : goal.returns
returns c = stay_apart
