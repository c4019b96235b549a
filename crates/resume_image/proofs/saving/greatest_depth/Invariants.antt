use Rattle.std.proofs.Common.{◌≡◌, ◌≤◌, ◌<◌, ℕ, Any, slice_index_or}
use Rattle.conflict_book.specs.spec_state.declared.pending.Pending.{Pending}
use Rattle.resume_image.proofs.saving.greatest_depth.Given as goal

abbrev pub invariant-loop-task : goal.invariant-loop-task
invariant-loop-task l =
    Any (λ (p : Pending). p.depth ≡ l.depth) l.pending
    × ((k : ℕ) → (d : Pending) → k < l.task-index → (slice_index_or l.pending k d).depth ≤ l.depth)
