use Rattle.std.proofs.Common.{take}
use Rattle.spec_state.specs.Picks.{IsPick, IsOwn, latest_first}
use Rattle.spec_state.proofs.Picks.{IsAmong}
use Rattle.spec_state.proofs.state.State.latest_on_core.Given as goal

abbrev pub invariant-loop-core : goal.invariant-loop-core
invariant-loop-core g l = IsPick latest_first (IsAmong (IsOwn l.self.view) (take l.core-index l.cores)) l.best
