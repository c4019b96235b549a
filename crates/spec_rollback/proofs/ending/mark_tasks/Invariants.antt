use Rattle.std.proofs.Common.{◌≡◌, ◌<◌, ℕ, false, length, slice_index_or}
use Rattle.std.specs.Prelude.{is_some}
use Rattle.slab.specs.Slab.{get}
use Rattle.spec_rollback.proofs.ending.mark_tasks.Given as goal

abbrev pub invariant-loop-id : goal.invariant-loop-id
invariant-loop-id l = record {
  marks : (id : ℕ) → id < l.id → slice_index_or l.marks id false ≡ is_some (get l.tasks id);
  count : length l.marks ≡ length l.initial.marks;
}
