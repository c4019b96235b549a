use Rattle.std.proofs.Common.{◌+◌, slice_index_or}
use Rattle.spec_state.specs.Picks.{IsFirstIdle}
use Rattle.spec_state.proofs.state.State.next_lesser.Given as goal

abbrev pub invariant-loop-place : goal.invariant-loop-place
invariant-loop-place g l = IsFirstIdle l.self.view l.ids (l.best + 1 + l.place) (slice_index_or l.ids l.best 0)
