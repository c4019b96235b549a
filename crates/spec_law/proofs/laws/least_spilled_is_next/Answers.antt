use Rattle.spec_law.proofs.Tasks.Next.{least_spilled_is_next}
use Rattle.spec_law.proofs.laws.least_spilled_is_next.Goals as goal

pub returns : goal.returns
returns c = least_spilled_is_next
