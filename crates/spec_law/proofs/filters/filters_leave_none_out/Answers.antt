use Rattle.spec_law.proofs.Telling.{filters_leave_none_out}
use Rattle.spec_law.proofs.filters.filters_leave_none_out.Goals as goal

pub returns : goal.returns
returns c = filters_leave_none_out
