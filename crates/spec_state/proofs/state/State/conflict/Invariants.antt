use Rattle.fractal_vt.specs.Keys.{key_cmp}
use Rattle.spec_state.specs.Picks.{IsPick}
use Rattle.spec_state.proofs.Conflicting.{IsConflictBelow}
use Rattle.spec_state.proofs.state.State.conflict.Given as goal

abbrev pub invariant-loop-tile : goal.invariant-loop-tile
invariant-loop-tile g l = IsPick key_cmp (IsConflictBelow l.self.view l.found l.line l.write l.tile) l.best
