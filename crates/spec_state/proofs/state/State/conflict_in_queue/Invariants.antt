use Rattle.std.proofs.Common.{Some, take}
use Rattle.fractal_vt.specs.Keys.{key_cmp}
use Rattle.spec_state.specs.Picks.{IsPick}
use Rattle.spec_state.proofs.Picks.{IsAmong}
use Rattle.spec_state.proofs.Conflicting.{HasConflict}
use Rattle.spec_state.proofs.state.State.conflict_in_queue.Given as goal

abbrev pub invariant-loop-id : goal.invariant-loop-id
invariant-loop-id g l =
    IsPick key_cmp (IsAmong (HasConflict l.self.view l.task l.line l.write (λ n. Some (record { 0 = n })))
    (take l.id-index l.ids)) l.best
