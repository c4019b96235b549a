use Rattle.std.proofs.Common.{subst}
use Rattle.commit_arbiter.specs.Indexed.{HasId}
use Rattle.commit_arbiter.proofs.Proved.{without_gone}
use Rattle.spec_state.proofs.arrival.enter_again.Goals as goal

pub insert-requires-clause-other : goal.insert-requires-clause-other
insert-requires-clause-other c has = without_gone c.args.id _ (subst (HasId c.args.id) c.remove.ensures.candidates has)
