use Rattle.watch_counts.proofs.Stopping.{capped_at, capped_beyond}
use Rattle.watch_counts.proofs.numbers.add_at.Goals as goal

pub returns-then-place-counts : goal.returns-then-place-counts
returns-then-place-counts c spec are =
    capped_at _ spec c.args.place c.args.number c.more.result are c.if-place-counts.true c.more.ensures

pub returns-else-place-counts : goal.returns-else-place-counts
returns-else-place-counts c spec are =
    capped_beyond _ spec c.args.place c.args.number are c.if-place-counts.false
