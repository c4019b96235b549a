use Rattle.std.proofs.Common.{◌≡◌, ◌≤◌, count_by, take}
use Rattle.watch_text.specs.spec_state.Told.{is_store}
use Rattle.watch_counts.proofs.done.stores_among.Given as goal

abbrev pub invariant-loop-place : goal.invariant-loop-place
invariant-loop-place l = (l.stores ≡ count_by is_store (take l.place l.accesses)) × (l.stores ≤ l.place)
