use Rattle.std.proofs.Common.{◌≡◌, ◌<◌, ◌≤◌, ℕ}
use Rattle.slab.specs.Slab.{get, slab_len}
use Rattle.spec_commit.specs.Committing.{after_adoption}
use Rattle.spec_commit.proofs.committing.adopt_all.Given as goal

abbrev pub invariant-loop-key : goal.invariant-loop-key
invariant-loop-key l = record {
  done : (k : ℕ) → k < l.key → get l.tasks k ≡ after_adoption l.id l.turn (get l.fn.tasks k);
  left : (k : ℕ) → l.key ≤ k → get l.tasks k ≡ get l.fn.tasks k;
  len : slab_len l.tasks ≡ slab_len l.fn.tasks;
  capacity : l.tasks.capacity ≡ l.fn.tasks.capacity;
}
