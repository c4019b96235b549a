use Rattle.abort_cascade.proofs.Rounds.{Spreads-none, Spreads-more}
use Rattle.abort_cascade.proofs.marking.grow.Goals as goal

pub loop-grown-init : goal.loop-grown-init
loop-grown-init g c = (Spreads-none _ _ _, λ no_way. absurd (cc))

pub loop-grown-preserved : goal.loop-grown-preserved
loop-grown-preserved g c =
    (Spreads-more _ _ _ _ _ c.loop-grown.invariant.0 c.pass-grown.ensures.spreads, c.pass-grown.ensures.closed)
