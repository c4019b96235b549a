use Rattle.std.proofs.Common.{◌≡◌, replicate}
use Rattle.commit_arbiter.specs.Slots.{blank_candidate}
use Rattle.commit_arbiter.proofs.slots.blanks.Given as goal

abbrev pub invariant-loop-slot : goal.invariant-loop-slot
invariant-loop-slot l = l.table.items ≡ replicate l._slot blank_candidate
