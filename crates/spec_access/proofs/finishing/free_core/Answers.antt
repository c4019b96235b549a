use Rattle.std.proofs.Common.{rules, ap, slice_set, None}
use Rattle.spec_access.proofs.Finished.{freed}
use Rattle.spec_access.proofs.finishing.free_core.Goals as goal

pub returns-clause-held : goal.returns-clause-held
returns-clause-held c =
    freed (λ held. held.items) c.args.cores.now.items c.args.tile c.args.core c.index_mut.result.now _ (search rules)
    (ap (λ held. slice_set held.items c.args.core None) c.index_mut.ensures.value)
