use Rattle.spec_law.proofs.Telling.{exact_filters_tell}
use Rattle.spec_law.proofs.filters.exact_filters_tell.Goals as goal

pub returns : goal.returns
returns c = exact_filters_tell
