use Rattle.spec_law.proofs.Aborted.Spared.{conflicts_spare_heir}
use Rattle.spec_law.proofs.aborting.conflicts_spare_heir.Goals as goal

pub returns : goal.returns
returns c = conflicts_spare_heir
