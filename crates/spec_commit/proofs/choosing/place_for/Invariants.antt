use Rattle.std.specs.Prelude.{◌≡◌, ◌<◌, ◌≤◌, ◌-◌, ℕ, length, Some, slice_get}
use Rattle.spec_commit.specs.Latest.{HasLessKey}
use Rattle.spec_commit.proofs.choosing.place_for.Given as goal

abbrev pub invariant-loop-place : goal.invariant-loop-place
invariant-loop-place g l = record {
  within : l.place ≤ length l.chosen;
  before : (k other : ℕ) → k < l.place → slice_get l.chosen k ≡ Some other → HasLessKey l.state.view other l.id;
}

abbrev pub decreases-loop-place : goal.decreases-loop-place
decreases-loop-place g l = length l.chosen - l.place
