use Rattle.fractal_vt.proofs.Renumbered.{keeps_prefixes}
use Rattle.fractal_vt.proofs.laws.renumbering_keeps_prefixes.Goals as goal

pub returns : goal.returns
returns c = keeps_prefixes
