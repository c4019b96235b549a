use Rattle.spec_law.proofs.Aborted.Taken.{order_aborts}
use Rattle.spec_law.proofs.aborting.marked_are_aborted.Goals as goal

pub returns : goal.returns
returns c = λ firsts old aborted new. order_aborts
