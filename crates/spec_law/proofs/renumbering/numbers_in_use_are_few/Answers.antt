use Rattle.spec_law.proofs.Renumbers.Few.{numbers_in_use_are_few}
use Rattle.spec_law.proofs.renumbering.numbers_in_use_are_few.Goals as goal

pub returns : goal.returns
returns c = numbers_in_use_are_few
