use Rattle.fractal_watch.proofs.Filtered.{NoneBefore}
use Rattle.fractal_watch.proofs.words.filter_place.Given as goal

abbrev pub invariant-loop-place : goal.invariant-loop-place
invariant-loop-place l = NoneBefore l.words l.place
