use Rattle.std.proofs.Common.{ap}
use Rattle.std.specs.Prelude.{is_some}
use Rattle.watch_counts.proofs.places.task_on.Goals as goal

pub task-requires : goal.task-requires
task-requires g c =
    let has = (c.is_stored.ensures.held_are c.args.tile c.args.core c.in-Some.id.0).0 c.in-Some.ensures in
    record { live = ap is_some has.1 }
