use Rattle.spec_law.proofs.Renumbers.Few.{numbers_are_held}
use Rattle.spec_law.proofs.renumbering.numbers_are_held.Goals as goal

pub returns : goal.returns
returns c = numbers_are_held
