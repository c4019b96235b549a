use Rattle.std.proofs.Common.{◌≡◌, ◌≤◌, vec_len, vec_capacity}
use Rattle.kept_slab.proofs.blanks.Given as goal

abbrev pub invariant-loop : goal.invariant-loop
invariant-loop g l = (vec_len l.held ≡ l.counter) × (l.places ≤ vec_capacity l.held)
