use Rattle.spec_law.proofs.Aborted.Cascades.{conflicts_spare_asker}
use Rattle.spec_law.proofs.laws.conflicts_spare_asker.Goals as goal

pub returns : goal.returns
returns c = conflicts_spare_asker
