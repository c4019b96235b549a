use Rattle.spec_law.proofs.Tasks.Firm.{spilled_are_firm}
use Rattle.spec_law.proofs.laws.spilled_are_firm.Goals as goal

pub returns : goal.returns
returns c = spilled_are_firm
