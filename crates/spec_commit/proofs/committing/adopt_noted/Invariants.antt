use Rattle.std.proofs.Common.{◌≡◌, ◌<◌, ℕ, Some, slice_get}
use Rattle.slab.specs.Slab.{get, slab_len}
use Rattle.spec_commit.specs.Committing.{IsAdoptedOrSame, after_adoption}
use Rattle.spec_commit.proofs.committing.adopt_noted.Given as goal

abbrev pub invariant-loop-key : goal.invariant-loop-key
invariant-loop-key l = record {
  each : (k : ℕ) → IsAdoptedOrSame l.id l.turn (get l.fn.tasks k) (get l.tasks k);
  noted : (place k : ℕ) → place < l.key-index → slice_get l.keys place ≡ Some k
      → get l.tasks k ≡ after_adoption l.id l.turn (get l.fn.tasks k);
  len : slab_len l.tasks ≡ slab_len l.fn.tasks;
  capacity : l.tasks.capacity ≡ l.fn.tasks.capacity;
}
