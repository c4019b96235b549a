use Rattle.std.proofs.Common.{take}
use Rattle.spec_state.specs.Picks.{IsPick, latest_first}
use Rattle.spec_state.proofs.Picks.{IsAmong}
use Rattle.spec_state.proofs.Dispatched.{IsListed}
use Rattle.spec_state.proofs.state.State.last_finished.Given as goal

abbrev pub invariant-loop-id : goal.invariant-loop-id
invariant-loop-id g l = IsPick latest_first (IsAmong (IsListed l.self.view) (take l.id-index l.ids)) l.best
