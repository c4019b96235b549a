use Rattle.spec_law.specs.AbortLaws.{IsFirst}
use Rattle.spec_law.proofs.Aborted.Taken.{cascade_holds}
use Rattle.spec_law.proofs.aborting.cascade_holds_pulled.Goals as goal

pub returns : goal.returns
returns c = λ view firsts. cascade_holds view (IsFirst view firsts)
