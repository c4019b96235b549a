use Rattle.abort_cascade.specs.Cascade.{Marked}
use Rattle.order_law.proofs.Above.{spares_law}
use Rattle.order_law.proofs.laws.cascade_spares_lower.Goals as goal

pub returns : goal.returns
returns c = λ tasks path next count pull firsts marks. spares_law tasks path next count pull (Marked firsts) marks
