use Rattle.spec_law.proofs.Aborted.Taken.{bags_taken_back}
use Rattle.spec_law.proofs.aborting.marked_are_idle.Goals as goal

pub returns : goal.returns
returns c = λ firsts old aborted new. bags_taken_back
