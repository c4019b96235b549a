use Rattle.std.proofs.Common.{◌<◌, ◌+◌, ◌-◌, length, slice_index_or}
use Rattle.spec_state.specs.Picks.{IsFirstIdle}
use Rattle.spec_state.proofs.state.State.least_idle.Given as goal

abbrev pub invariant-loop-place : goal.invariant-loop-place
invariant-loop-place g l = record {
  within : l.best < length l.ids;
  least : IsFirstIdle l.self.view l.ids (l.best + 1) (slice_index_or l.ids l.best 0);
}

abbrev pub decreases-loop-place : goal.decreases-loop-place
decreases-loop-place g l = length l.ids - l.best
