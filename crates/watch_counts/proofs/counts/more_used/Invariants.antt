use Rattle.std.proofs.Common.{◌≡◌, ℕ, ◌+◌, take}
use Rattle.std.specs.Prelude.{sum_by}
use Rattle.watch_counts.specs.Capped.{capped}
use Rattle.watch_counts.specs.Work.{used_by}
use Rattle.watch_counts.proofs.counts.more_used.Given as goal

abbrev pub invariant-loop-id : goal.invariant-loop-id
invariant-loop-id g l =
    (c : ℕ) → l.count ≡ capped c → l.left ≡ capped (c + sum_by (used_by l.state.view) (take l.id-index l.ids))
