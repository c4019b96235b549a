use Rattle.std.proofs.Common.{◌≡◌, [], replicate, length}
use Rattle.spec_state.proofs.children.Children.new.Given as goal

abbrev pub invariant-loop : goal.invariant-loop
invariant-loop l = (l.places.items ≡ replicate l.counter []) × (length l.places.items ≡ l.counter)
