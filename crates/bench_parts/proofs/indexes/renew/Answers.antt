use Rattle.std.proofs.Common.{subst}
use Rattle.commit_arbiter.specs.Indexed.{HasId}
use Rattle.commit_arbiter.proofs.Proved.{without_gone}
use Rattle.bench_parts.proofs.indexes.renew.Goals as goal

pub insert-requires-clause-other : goal.insert-requires-clause-other
insert-requires-clause-other c has =
    without_gone c.args.id c.args.index.now.candidates (subst (HasId c.args.id) c.remove-found.ensures.candidates has)
