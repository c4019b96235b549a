use Rattle.std.proofs.Common.{sym}
use Rattle.tile_queues.proofs.Proved.{ids_but-absent}
use Rattle.spec_state.proofs.leaving.leave_commits.Goals as goal

pub returns-in_default : goal.returns-in_default
returns-in_default c =
    let same = ids_but-absent c.args.id c.args.waiting.now.ids (λ has. c.in_default.not-Finished (c.requires.finished has)) in
    λ i. record { capacity = c.args.waiting.now.capacity; ids = sym same i }
