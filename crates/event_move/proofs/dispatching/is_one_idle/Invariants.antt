use Rattle.std.proofs.Common.{None}
use Rattle.event_prelude.specs.spec_state.Picks.{IsIdlePick}
use Rattle.event_move.proofs.dispatching.is_one_idle.Given as goal

abbrev pub invariant-loop-id : goal.invariant-loop-id
invariant-loop-id g l = IsIdlePick l.state.view l.ids l.id-index None
