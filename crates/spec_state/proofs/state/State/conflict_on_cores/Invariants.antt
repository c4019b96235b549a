use Rattle.std.proofs.Common.{take}
use Rattle.fractal_vt.specs.Keys.{key_cmp}
use Rattle.spec_state.specs.Picks.{IsPick}
use Rattle.spec_state.proofs.Picks.{IsAmong}
use Rattle.spec_state.proofs.Conflicting.{HasConflict}
use Rattle.spec_state.proofs.state.State.conflict_on_cores.Given as goal

abbrev pub invariant-loop-core : goal.invariant-loop-core
invariant-loop-core g l =
    IsPick key_cmp (IsAmong (HasConflict l.self.view l.task l.line l.write (λ held. held))
    (take l.core-index l.cores)) l.best
