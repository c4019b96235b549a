use Rattle.fractal_vt.proofs.Renumbered.{keeps_order}
use Rattle.fractal_vt.proofs.laws.renumbering_keeps_key_order.Goals as goal

pub returns : goal.returns
returns c = keeps_order
