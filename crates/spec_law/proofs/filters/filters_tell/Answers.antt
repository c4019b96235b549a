use Rattle.spec_law.proofs.Telling.{filters_tell}
use Rattle.spec_law.proofs.filters.filters_tell.Goals as goal

pub returns : goal.returns
returns c = filters_tell
