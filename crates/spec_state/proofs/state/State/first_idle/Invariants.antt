use Rattle.std.proofs.Common.{None}
use Rattle.spec_state.specs.Picks.{IsIdlePick}
use Rattle.spec_state.proofs.state.State.first_idle.Given as goal

abbrev pub invariant-loop-place : goal.invariant-loop-place
invariant-loop-place g l = IsIdlePick l.self.view l.ids l.place None
