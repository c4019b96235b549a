use Rattle.std.proofs.Common.{◌∙◌}
use Rattle.rv_core.proofs.Unreached.{all_plain_keep}
use Rattle.rv_core.proofs.noted.NotedCore.run_decoded.Goals as goal

pub invariant_of-self : goal.invariant_of-self
invariant_of-self g c still =
    let (was, first) = c.stays_empty-self-inside.ensures still in
    all_plain_keep _ _ _ _ _ _ first c.run_decoded-done.ensures.leg.run ∙ c.self.invariant was
