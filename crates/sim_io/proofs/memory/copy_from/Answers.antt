use Rattle.std.proofs.Common.{◌∙◌, ap, take, rules}
use Rattle.sim_io.proofs.Steps.{drop-copied}
use Rattle.sim_io.proofs.memory.copy_from.Goals as goal

pub returns-clause-copied : goal.returns-clause-copied
returns-clause-copied c =
    drop-copied c.args.bytes.now c.args.buf.now _ c.args.at c.min-count.result (search rules)
    (c.copy_from_slice.ensures.after ∙ ap (take c.min-count.result) c.split_at.ensures.back)
