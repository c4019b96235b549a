use Rattle.std.proofs.Common.{◌≡◌, replicate, None, length}
use Rattle.spec_state.specs.View.{core_ids}
use Rattle.spec_state.proofs.making.free_cores.Given as goal

abbrev pub invariant-loop : goal.invariant-loop
invariant-loop l = (core_ids l.held.items ≡ replicate l.counter None) × (length l.held.items ≡ l.counter)
