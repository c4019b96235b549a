use Rattle.spec_state.specs.declared.reserving.TheConstants.{MAX_MOVED}
use Rattle.spec_state.specs.Least.{Precedes}
use Rattle.spec_commit.specs.Latest.{AreLatest, MayMove}
use Rattle.spec_commit.proofs.choosing.chosen_tasks.Given as goal

abbrev pub invariant-loop-seen : goal.invariant-loop-seen
invariant-loop-seen g l =
    AreLatest (Precedes l.state.view l.tile) (MayMove l.state.view l.tile l.seen) MAX_MOVED l.chosen.items
