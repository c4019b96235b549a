use Rattle.abort_cascade.specs.Cascade.{Marked}
use Rattle.order_law.proofs.Above.{cascade_law}
use Rattle.order_law.proofs.laws.cascade_lies_above.Goals as goal

pub returns : goal.returns
returns c =
    λ tasks path next count pull firsts marks low. cascade_law tasks path next count pull (Marked firsts) marks low
