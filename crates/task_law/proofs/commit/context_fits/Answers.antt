use Rattle.task_law.proofs.Fitting.{contexts_fit}
use Rattle.task_law.proofs.commit.context_fits.Goals as goal

pub returns : goal.returns
returns c = contexts_fit
