use Rattle.std.proofs.Common.{◌-◌, length}
use Rattle.std.proofs.lemmas.List.Sorted.{IsPermutation-put_mid}
use Rattle.spec_rollback.proofs.marking.sort_from.Goals as goal

pub returns-clause-permuted : goal.returns-clause-permuted
returns-clause-permuted c =
    IsPermutation-put_mid c.args.from (length c.args.ids.now - c.args.from) c.args.ids.now c.sort_unstable.new.self
    c.sort_unstable.ensures.permutation
