use Rattle.spec_law.proofs.Aborted.KeptHeir.{abort_keeps_heir}
use Rattle.spec_law.proofs.aborting.abort_keeps_heir_of_view.Goals as goal

pub returns : goal.returns
returns c = abort_keeps_heir
