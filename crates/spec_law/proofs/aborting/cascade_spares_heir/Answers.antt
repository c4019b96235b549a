use Rattle.spec_law.proofs.Aborted.Spared.{cascade_spares_heir}
use Rattle.spec_law.proofs.aborting.cascade_spares_heir.Goals as goal

pub returns : goal.returns
returns c = cascade_spares_heir
