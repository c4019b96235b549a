use Rattle.std.proofs.Common.{◌≡◌, take}
use Rattle.std.specs.Prelude.{fold}
use Rattle.watch_counts.specs.declared.counts.Counts.{Counts}
use Rattle.watch_counts.specs.Capped.{capped_counts}
use Rattle.watch_counts.specs.Counts.{after_taken}
use Rattle.watch_counts.proofs.counts.Counts.count_back.Given as goal

abbrev pub invariant-loop-task : goal.invariant-loop-task
invariant-loop-task l =
    (c : Counts) → l.initial.self ≡ capped_counts c
    → l.self ≡ capped_counts (fold (after_taken l.cause) c (take l.task-index l.back))
