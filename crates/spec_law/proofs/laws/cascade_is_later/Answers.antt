use Rattle.spec_law.proofs.Aborted.Cascades.{cascade_is_later}
use Rattle.spec_law.proofs.laws.cascade_is_later.Goals as goal

pub returns : goal.returns
returns c = cascade_is_later
