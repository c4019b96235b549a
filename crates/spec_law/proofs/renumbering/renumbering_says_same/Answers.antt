use Rattle.spec_law.proofs.Renumbers.Sound.{renumbering_says_same}
use Rattle.spec_law.proofs.renumbering.renumbering_says_same.Goals as goal

pub returns : goal.returns
returns c = renumbering_says_same
