use Rattle.fractal_vt.proofs.Renumbered.{keeps_domains}
use Rattle.fractal_vt.proofs.laws.renumbering_keeps_domains.Goals as goal

pub returns : goal.returns
returns c = keeps_domains
