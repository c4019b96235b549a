use Rattle.std.proofs.Common.{◌≡◌, ◌≤◌, count_by, nat_le, take}
use Rattle.watch_counts.specs.declared.done.TheConstants.{POWERS}
use Rattle.watch_counts.proofs.done.length_place.Given as goal

abbrev pub invariant-loop-place : goal.invariant-loop-place
invariant-loop-place l =
    (l.found ≡ count_by (λ power. nat_le power l.used) (take l.place POWERS)) × (l.found ≤ l.place)
